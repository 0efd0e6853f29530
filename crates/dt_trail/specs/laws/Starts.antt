-- A row begins with itself, and with the beginnings of its beginnings.
use Rattle.std.proofs.Common.{List, [], ◌++◌, sym, ap, ◌∙◌, append-nil, append_assoc}
use Rattle.dt_trail.specs.Items.{StartsWith, TrailItem}

pub starts_self : (row : List TrailItem) → StartsWith row row
starts_self row = ([], sym (append-nil row))

unfoldable pub starts_trans : (row mid known : List TrailItem) → StartsWith row mid → StartsWith mid known → StartsWith row known
starts_trans row mid known a b =
    (b.0 ++ a.0, a.1 ∙ ap (λ (l : List TrailItem). l ++ a.0) b.1 ∙ append_assoc known b.0 a.0)
