-- How a list of probes is written.
use Rattle.std.proofs.Common.{◌≡◌, ℕ, false, List, [], ◌∷◌, ◌++◌, map, codes, decimal, append_assoc, sym, ap, ◌∙◌}
use Rattle.std.specs.List.{join_with_byte}
use Rattle.serde_json.specs.Data.{string}
use Rattle.serde_json.specs.View.{items_of}
use Rattle.serde_json.specs.Written.{compact_text, items_text}
use Rattle.serde_json.proofs.OnLiterals.{serde_json_on_literals}
use Rattle.dt_cred.specs.declared.probe.Probe.{Probe}
use Rattle.dt_life.specs.Answer.{listed}
use Rattle.dt_proto.specs.Reply.{probe_data, probe_text, tuple_text, reply_text}
use Rattle.dt_proto.proofs.ItemTexts.{items_written}

one_text : (a b : List ℕ) → codes "{\"id\":" ++ a ++ codes ",\"name\":" ++ b ++ codes "}"
    ≡ codes "{\"id\":" ++ (a ++ (codes ",\"name\":" ++ (b ++ codes "}")))
one_text a b = simp append_assoc

probe_written : (probe : Probe) → compact_text (probe_data probe) ≡ probe_text probe
unfolding serde_json_on_literals
probe_written probe = sym (one_text (decimal probe.id) (compact_text (string (tuple_text probe.tuple))))

-- a list's text, round that of its probes
round : List ℕ → List ℕ
round probes = codes "{\"ok\":true,\"probes\":[" ++ (probes ++ codes "}\n")

parts : (probes : List Probe) → reply_text (listed probes)
    ≡ round (items_text false (items_of (map probe_data probes)))
unfolding serde_json_on_literals round
parts probes = simp append_assoc

closed : (a b : List ℕ) → a ++ ((b ++ 93 ∷ []) ++ codes "}\n") ≡ a ++ b ++ codes "]}\n"
closed a b = simp append_assoc

pub text-listed : (probes : List Probe) → reply_text (listed probes)
    ≡ codes "{\"ok\":true,\"probes\":[" ++ join_with_byte 44 (map probe_text probes) ++ codes "]}\n"
unfolding round
text-listed probes = parts probes ∙ ap round (items_written Probe probe_data probe_text probe_written probes)
    ∙ closed (codes "{\"ok\":true,\"probes\":[") (join_with_byte 44 (map probe_text probes))
