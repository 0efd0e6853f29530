-- What holds at each turn of the loops of `ProbeDesc::aligned`.
use Rattle.std.proofs.Common.{◌≡◌, [], ◌∷◌, ◌++◌, length, drop, replicate, map}
use Rattle.dt_names.proofs.desc.ProbeDesc.aligned.Given as goal

-- the description has the last four of the fields so far
abbrev pub invariant-loop-field : goal.invariant-loop-field
invariant-loop-field l =
    l.desc.provider.now ∷ l.desc.module.now ∷ l.desc.function.now ∷ l.desc.name.now ∷ []
    ≡ drop (length l.yielded) (replicate 4 [] ++ map (λ x. x.now) l.yielded)
