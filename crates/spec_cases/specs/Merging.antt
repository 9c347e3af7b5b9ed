-- Cases of one sort as one.
use Rattle.std.specs.Prelude.{Option, Some, None, if◌then◌else◌}
use Rattle.std.specs.Bool.{◌==◌}
use Rattle.model_questions.specs.Formulas as M
use Rattle.model_questions.specs.Forms as MF
use Rattle.spec_cases.specs.declared.forms.Form.{Form}
use Rattle.spec_cases.specs.declared.forms.Form.TheVariants as Fo
use Rattle.spec_cases.specs.declared.merging.Pair.{Pair}
use Rattle.spec_cases.specs.declared.merging.Pair.TheVariants as Pairs
use Rattle.spec_cases.specs.Namings.{Naming, word_of, integer_of, fact_of}

-- two values of one sort
abbrev pub pair_of : Form → Form → Option Pair
pair_of (Fo.Fact f) (Fo.Fact g) = Some (Pairs.Facts f g)
pair_of (Fo.Integer y) (Fo.Integer z) = Some (Pairs.Integers y z)
pair_of (Fo.Word w t) (Fo.Word x u) = if w == x then Some (Pairs.Words w t u) else None
pair_of _ _ = None

-- the first where a guard is so, else the second
abbrev pub choice_of : Naming → M.Fact → Pair → MF.Form
choice_of v g (Pairs.Facts a b) = MF.a_fact (M.one_of (M.both_of g (fact_of v a)) (M.both_of (M.none_of g) (fact_of v b)))
choice_of v g (Pairs.Integers a b) = MF.an_integer_by (M.either_integer g (integer_of v a) (integer_of v b))
choice_of v g (Pairs.Words w a b) = MF.a_word_by w (M.either_word g (word_of v a) (word_of v b))
