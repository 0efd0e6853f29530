-- A `close` is the last of the lines, and its reply the last of the text.
use Rattle.std.proofs.Common.{[], ◌∷◌, ◌++◌, true, length, map, sym, ap, ◌∙◌}
use Rattle.std.proofs.lemmas.List.{map-append}
use Rattle.dt_legal.specs.Rows.{line_form_of}
use Rattle.dt_proto.specs.Reply.{reply_text}
use Rattle.dt_server.specs.Served.{lines_in, taken_lines, woven}
use Rattle.dt_server.proofs.Answering.{kept-taken, lines_last, one_more, served_count, woven-taken}
use Rattle.dt_server.proofs.laws.closed_is_woven.Goals as goal

pub returns : goal.returns
returns c = λ account contents lines items text h.
    let s = h.served in
    let form = line_form_of h.item in
    let last = s.taken ++ true ∷ [] in (
      last,
      one_more s.taken h.before true form s.each ∙ sym (ap length h.lines_are),
      ap lines_in h.items_are ∙ lines_last h.earlier h.item h.mine ∙ ap (λ l. l ++ form ∷ []) s.own_lines
          ∙ sym (kept-taken s.taken h.before form s.each) ∙ ap (taken_lines last) (sym h.lines_are),
      s.answers ++ h.answer ∷ [],
      h.alone,
      h.text_is ∙ ap (λ t. t ++ reply_text h.answer) s.text_is
          ∙ sym (woven-taken s.taken (map reply_text s.answers) (reply_text h.answer) (served_count account contents h.before h.earlier h.told s))
          ∙ ap (woven last) (sym (map-append reply_text s.answers (h.answer ∷ []))),
    )
