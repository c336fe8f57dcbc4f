mod Crossing
mod Determined
mod Nth
mod OneMore
