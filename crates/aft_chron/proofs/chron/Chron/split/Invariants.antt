use Rattle.aft_chron.proofs.chron.Chron.split.Given as goal

-- the split gives away the parts that are asked for
abbrev pub ghosts-split : goal.ghosts-split
ghosts-split g a = record { parts = a.parts }
