mod LineLaws
mod Reasons
