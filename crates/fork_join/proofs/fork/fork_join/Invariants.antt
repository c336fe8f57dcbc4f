use Rattle.fork_join.proofs.fork.fork_join.Given as goal

abbrev pub ghosts-fork_parts : goal.ghosts-fork_parts
ghosts-fork_parts g a = record { name = a.blank.name; parts = a.blank.parts }
