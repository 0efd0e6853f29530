use Rattle.dt_trail.proofs.owner.TrailOwner.append.Given as goal

-- the item that is appended
abbrev pub ghosts-set_next : goal.ghosts-set_next
ghosts-set_next g a = record { item = a.item.now }
