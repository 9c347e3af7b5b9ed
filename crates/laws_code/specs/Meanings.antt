-- The meaning that the functions around a text are.
use Rattle.std.specs.Prelude.{◌≡◌, ◌≢◌, ℕ, Bool, true, false, not, List, Option, None, slice_get, take, IsTrue}
use Rattle.model.specs.rules.Values.{Value, no_value, value_and, args_well_typed}
use Rattle.model.specs.rules.Meaning.{Content, Literal, bool_literal, int_literal, Meaning}
use Rattle.model.specs.rules.Outcome.{Call, stuck, then_option}
use Rattle.model.specs.rules.Program.{arg_types, is_multi, rules_of}
use Rattle.model.specs.rules.Choice.{choice}
use Rattle.model.specs.sites.Sites.{Site}
use Rattle.model.specs.sites.Serves.{Serves, TellsConstantsApart}
use Rattle.model.specs.trees.Run.{World}
use Rattle.model_code.specs.Code.{Block}
use Rattle.model_code.specs.CodeRuns.{code_run}
use Rattle.model_code.specs.Notation.{Notation, ReturnForm, extractor_of, constructor_of}
use Rattle.model_code.specs.ProgramNotation.{notation_of}
use Rattle.model_code.specs.Pieces.{ends_function, result_ends}
use Rattle.model_code.specs.Written.{shown_code}
use Rattle.model_code.specs.ReadsBack.{writable}
use Rattle.laws_code.specs.AcceptedCode.{OfBestTrees}
use Rattle.laws_code.specs.TypedTrees.{code_by_types}
use Rattle.laws_code.specs.ShownRuns.{ShownExterns, ShownWorld, shown_run}
use Rattle.laws_code.specs.ShownLaws.{calls_as, outcome_by_number}
use Rattle.laws_code.specs.CalledAlike.{AreCalledAlike}

abbrev pub literal_around : Notation → ShownExterns → Literal → Option Value
literal_around p a (bool_literal b ty) = a.literals (bool_literal b 0)
literal_around p a (int_literal z ty) = a.literals (int_literal z (p.ending ty))

-- what is answered to the impure call behind so many of these
abbrev pub answer_behind : ShownExterns → List Call → ℕ → Option Content
answer_behind a calls k = then_option (slice_get calls k) (a.impures (take k calls))

-- what is said around, of a run that makes these impure calls
abbrev pub meaning_around : Notation → ShownExterns → List Call → Meaning
meaning_around p a calls = record {
  literals = literal_around p a;
  constants = a.constants;
  extractors = λ t v. a.pures (p.function (extractor_of t)) (value_and v no_value);
  pures = λ t vs. a.pures (p.function (constructor_of t)) vs;
  impures = λ t k. answer_behind a calls k;
}

abbrev pub world_around : Notation → List Site → ShownWorld → List Call → World
world_around p sites w calls = record { sites = sites; args = w.args; meaning = meaning_around p w.around calls; multi = w.multi }

-- among whatever functions, what is shown of code does what the code does under the meaning that the functions are, if this run isn't
-- stuck
abbrev pub ShownCodeRunsUnderItsMeaning : Type 0
ShownCodeRunsUnderItsMeaning =
    (p : Notation) (code : Block) (w : ShownWorld) (sites : List Site) (most : Option ℕ)
    → writable p false code ≡ true → calls_as p w.around.is_impure code ≡ true → w.multi ≡ not (result_ends p)
    → (code_run code (world_around p sites w (shown_run (shown_code p code) w most).calls) most).ending ≢ stuck
    → shown_run (shown_code p code) w most ≡ outcome_by_number p (code_run code (world_around p sites w (shown_run (shown_code p code) w most).calls) most)

abbrev pub one_result : ShownExterns → List Value → ShownWorld
one_result around args = record { around = around; args = args; multi = false }

-- so the text of a term that isn't multi has the outcome that source rules choose under this meaning, if it serves them and tells
-- constants apart
abbrev pub TextRunsUnderItsMeaning : Type 0
TextRunsUnderItsMeaning =
    OfBestTrees (λ p l. (kind : ReturnForm) (is_logged : Bool) (deep : ℕ → Bool) (d : ℕ) → ends_function kind ≡ true → is_multi p l.term ≡ false → (around : ShownExterns) (args : List Value) (m : Meaning)
    → AreCalledAlike p (notation_of p kind is_logged) around.is_impure
    → m ≡ meaning_around (notation_of p kind is_logged) around (shown_run (shown_code (notation_of p kind is_logged) (code_by_types p l deep d)) (one_result around args) None).calls
    → IsTrue (args_well_typed p.types (arg_types p l.term) args) → Serves p m args (rules_of p l.term) → TellsConstantsApart p m (rules_of p l.term)
    → shown_run (shown_code (notation_of p kind is_logged) (code_by_types p l deep d)) (one_result around args) None ≡ outcome_by_number (notation_of p kind is_logged) (choice p m (rules_of p l.term) args))
