-- Runs of shown code, and near ones that are others.
use Rattle.std.specs.Prelude.{◌≡◌, ◌∷◌, [], ◌==◌, ℕ, ℤ, pos, Bool, true, false, List, Option, Some, None, if◌then◌else◌, codes}
use Rattle.model.specs.lists.Tables.{TermEntry, declared_term, external_constructor}
use Rattle.model.specs.rules.Program.{Program}
use Rattle.model.specs.rules.Values.{Value, atom, no_value, value_and}
use Rattle.model.specs.rules.Meaning.{Content, one}
use Rattle.model.specs.rules.Outcome.{Call, ended, ran_through, stuck}
use Rattle.model.specs.trees.Run.{World}
use Rattle.model_code.specs.Code.{Place, name_written, variant_written, int_written, as_it_is, call, Block, no_statement, statement, bind, if_equal, give}
use Rattle.model_code.specs.CodeRuns.{code_run}
use Rattle.model_code.specs.Samples.{use_of, plain, arg0, somewhere, one_statement}
use Rattle.model_code.specs.TypeSamples.{program, constructor_of as constructor_entry}
use Rattle.model_code.specs.ProgramNotation.{notation_of}
use Rattle.model_code.specs.Notation.{gives_one}
use Rattle.model_code.specs.CodeTextSamples.{notation, names}
use Rattle.model_code.specs.Spelling.{Names, spelled}
use Rattle.model_code.specs.ReadTexts.{IsReadAsCode}
use Rattle.model_code.specs.Written.{shown_code, function_body}
use Rattle.laws_code.specs.ShownRuns.{ShownExterns, ShownWorld, shown_run}
use Rattle.laws_code.specs.ShownLaws.{calls_as}
use Rattle.laws_code.specs.CalledAlike.{AreCalledAlike}

abbrev pub number : ℤ → Value
number z = atom 2 z

-- function 0 answers 7 at first, and 8 later; function 1 answers 9, and is pure
abbrev pub said_of : List Call → Call → Option Content
said_of [] c = Some (one (number (pos 7)))
said_of before c = Some (one (number (pos 8)))

abbrev pub around : (impure : Bool) → ShownExterns
around impure = record {
  literals = λ l. None;
  constants = λ name. None;
  is_impure = λ f. if f == 0 then impure else false;
  pures = λ f vs. Some (one (number (pos 9)));
  impures = said_of;
}

abbrev pub shown_among : (impure : Bool) → ShownWorld
shown_among impure = record { around = around impure; args = number (pos 1) ∷ []; multi = false }

-- let v1 = C::pick(ctx, arg0); let v2 = C::all(ctx, v1); let v3 = C::pick(ctx, v2); return v3;
abbrev pub calls_of : (first second : ℕ) → Block
calls_of first second =
    statement (bind 1 (call first (arg0 ∷ []) 1))
    (statement (bind 2 (call second (plain 1 ∷ []) 0))
    (statement (bind 3 (call first (plain 2 ∷ []) 2)) (one_statement (give somewhere (plain 3)))))

abbrev pub a_call : ℕ → ℤ → Call
a_call f z = record { term = f; args = value_and (number z) no_value }

abbrev pub shown_of : Block → Block
shown_of code = shown_code (notation gives_one) code

-- a meaning that says nothing of what is written out, and a comparison with such a number
abbrev pub silent : World
silent = record {
  sites = [];
  args = number (pos 1) ∷ [];
  meaning = record { literals = λ l. None; constants = λ name. None; extractors = λ t v. None; pures = λ t vs. None; impures = λ t n. None };
  multi = false;
}

abbrev pub compares : Block
compares = one_statement (if_equal arg0 (use_of (int_written (pos 5) 2) as_it_is) no_statement)

-- a pure term, and an impure one that is the same function
abbrev pub pure_one : TermEntry
pure_one = record (constructor_entry 0 false) { kind = declared_term (record { pure = true; multi = false; partial = false; rec = false }) (Some (external_constructor 0)) None }

abbrev pub mixed : Program
mixed = record program { terms = pure_one ∷ (constructor_entry 0 false ∷ []) }

-- names of which a constant and a variant are one text, and what gives either
abbrev pub colliding : Names
colliding = record names { constant = λ name. codes "S::N" }

abbrev pub reads : Place → Block
reads place = one_statement (give somewhere (use_of place as_it_is))

abbrev pub read_text : List ℕ
read_text = spelled colliding (function_body (notation gives_one) (reads (name_written 0)))

pub record ShownRunsAreJudged : Type 0 where
  -- the impure calls by their numbers, and the second one's answer
  pub runs : shown_run (shown_of (calls_of 0 1)) (shown_among true) None ≡ record { calls = a_call 0 (pos 1) ∷ (a_call 0 (pos 9) ∷ []); results = one (number (pos 8)) ∷ []; ending = ended }
  -- a term that is the same function runs the same
  pub alike : shown_run (shown_of (calls_of 2 1)) (shown_among true) None ≡ shown_run (shown_of (calls_of 0 1)) (shown_among true) None
  -- another function doesn't: both are called purely
  pub other : shown_run (shown_of (calls_of 1 1)) (shown_among true) None ≡ record { calls = []; results = one (number (pos 9)) ∷ []; ending = ended }
  -- a function that isn't impure isn't noted
  pub pure : shown_run (shown_of (calls_of 0 1)) (shown_among false) None ≡ record { calls = []; results = one (number (pos 9)) ∷ []; ending = ended }
  -- calls are as their functions are, or not
  pub as_functions : calls_as (notation gives_one) (around true).is_impure (calls_of 0 1) ≡ true
  pub not_as_function : calls_as (notation gives_one) (around false).is_impure (calls_of 0 1) ≡ false
  pub not_as_other : calls_as (notation gives_one) (around true).is_impure (calls_of 1 1) ≡ false
  -- a comparison with a number of which nothing is said gets stuck; shown as a match it isn't met
  pub compares_stuck : (code_run compares silent None).ending ≡ stuck
  pub match_unmet : (shown_run (shown_of compares) (shown_among true) None).ending ≡ ran_through
  -- functions are impure as the sample's terms are; not where a pure term and an impure one are one function
  pub alike_there : AreCalledAlike program (notation_of program gives_one false) (λ f. true)
  pub unlike_there : (is_impure : ℕ → Bool) → AreCalledAlike mixed (notation_of mixed gives_one false) is_impure → ⊥
  -- one text, two readings
  pub constant_read : IsReadAsCode colliding (notation gives_one) read_text (reads (name_written 0))
  pub variant_read : IsReadAsCode colliding (notation gives_one) read_text (reads (variant_written 4 0))
