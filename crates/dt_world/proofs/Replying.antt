-- The replies that are told, and one more.
use Rattle.std.proofs.Common.{◌≡◌, ℕ, List, [], ◌∷◌, ◌++◌, sym, ap, ◌∙◌}
use Rattle.std.specs.List.{flat_map}
use Rattle.std.proofs.lemmas.List.{append-nil}
use Rattle.std.proofs.lemmas.List.Concat.{flat_map-append}
use Rattle.dt_machine.specs.Registry.{Registry}
use Rattle.dt_steps.specs.Ran.{SeatReply, IsReply, AreReplies}
use Rattle.dt_world.specs.Replay.{told_line}
use Rattle.dt_world.specs.Told.{IsToldText}
use Rattle.dt_steps.specs.World.{Question}

replies-one_more : (registry : Registry) (questions : List Question) (told : List SeatReply) (question : Question)
    (one : SeatReply) → AreReplies registry questions told → IsReply registry question one
    → AreReplies registry (questions ++ question ∷ []) (told ++ one ∷ [])
replies-one_more registry [] [] question one h is = (is, tt)
replies-one_more registry [] (t ∷ told) question one h is = absurd h
replies-one_more registry (q ∷ questions) [] question one h is = absurd h
replies-one_more registry (q ∷ questions) (t ∷ told) question one h is =
    (h.0, replies-one_more registry questions told question one h.1 is)

pub told-one_more : (registry : Registry) (questions : List Question) (text more : List ℕ) (question : Question)
    (one : SeatReply) → IsToldText registry questions text → IsReply registry question one
    → more ≡ text ++ told_line one → IsToldText registry (questions ++ question ∷ []) more
told-one_more registry questions text more question one told is text_is = (
  told.0 ++ one ∷ [],
  replies-one_more registry questions told.0 question one told.1 is,
  text_is ∙ ap (λ before. before ++ told_line one) told.2
      ∙ sym (flat_map-append told_line told.0 (one ∷ []) ∙ ap (λ last. flat_map told_line told.0 ++ last)
      (append-nil (told_line one))),
)
