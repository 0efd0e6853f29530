-- What is to be shown of `layout_in`.
use Rattle.std.proofs.Common.{map, refl}
use Rattle.serde_json.specs.View.{view}
use Rattle.dt_record.specs.Fields.{form_of_field}
use Rattle.dt_front.proofs.Words.{all_words, no_word_at}
use Rattle.dt_front.proofs.reading.layout_in.Goals as goal

pub returns-in-None : goal.returns-in-None
returns-in-None c = λ fields words.
    no_word_at view c.args.words.now fields c.loop-word.word-index c.word-item.result c.loop-word-test.true c.word-item.is c.in-None.ensures words

pub returns : goal.returns
returns c = (
  map form_of_field c.loop-word.fields.items,
  refl,
  all_words view c.args.words.now c.loop-word.word-index c.loop-word.fields.items c.loop-word-test.false
      c.loop-word.invariant.few c.loop-word.invariant.same,
)
