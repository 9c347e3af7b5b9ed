-- The sample's whole run.
use Rattle.std.proofs.Common.{◌≡◌, ◌&&◌, ℕ, if◌then◌else◌, Option, List, [], ◌∷◌, Some, None, IsSomeAnd, IsTrue, Contains, refl, sym, inl, inr, arith}
use Rattle.std.proofs.lemmas.Grind.{common_steps}
use Rattle.std.specs.Bool.{◌==◌}
use Rattle.std.proofs.lemmas.Bool.{and_parts, eqb-true}
use Rattle.model.specs.rules.Values.{Values, no_value, value_and, values_eq}
use Rattle.model.specs.rules.Meaning.{Content, one, Meaning, pure_answer}
use Rattle.model.specs.rules.Outcome.{Call}
use Rattle.model.specs.rules.Program.{Program, kind, rules_of, terms_with_rules}
use Rattle.model.specs.rules.Typed.{TypedRule}
use Rattle.model.specs.sites.Serves.{asked, tested_constants, fits_constructor, TellsConstantsApart}
use Rattle.model.specs.sites.Sites.{SiteTerm, argument, constructor_call, site_term_and, no_site_term}
use Rattle.model.specs.visits.Demands.{demands_of}
use Rattle.model.proofs.Elements.{in_from_contains, contains_from_in, some_is, none_some}
use Rattle.model.proofs.ValuesEqual.{eq_all_means}
use Rattle.laws_specs.specs.Samples.{x, adding, rule_of}
use Rattle.laws_specs.specs.SampleCalls.{a_byte, as_written}
use Rattle.laws_specs.specs.WholeRuns.{by_rules, IsPureAnswer, a_result, WholeRun}
use Rattle.laws_specs.specs.SampleRuns.{noted_rule, noting_program, hundreds, adds_and_notes, call_of, RunsAreWhole}

-- 1. rules that name no constant
pub apart_of : (p : Program) (m : Meaning) (t : ℕ) → tested_constants p (rules_of p t) ≡ [] → ((r : TypedRule) → Contains (rules_of p t) r → (demands_of p r).constraints ≡ []) → TellsConstantsApart p m (rules_of p t)
apart_of p m t none bare = grind (arith, common_steps, in_from_contains)

-- 2. `twice` of 100
abbrev from_outside : (ℕ → Values → Option Content) → (ℕ → ℕ → Option Content) → Meaning
from_outside pures impures = record { literals = λ l. Some (as_written l); constants = λ name. None; extractors = λ t v. None; pures = pures; impures = impures }

abbrev twice_meaning : Meaning
twice_meaning = from_outside adds_and_notes.pures (λ t n. None)

-- whatever a whole run nests, `add` is outside
added : (N : Call → List Call → Content → List Call → Type 0) (t : ℕ) (vs : Values) (a : Content) → adds_and_notes.pures t vs ≡ Some a → IsPureAnswer N noting_program adds_and_notes t vs a
added N t vs a e = grind (arith, common_steps, eqb-true 1 t, and_parts (1 == t) (values_eq hundreds vs), none_some a, eqb-true, and_parts, none_some)

only_rule : (t : ℕ) (q r : TypedRule) → rules_of noting_program t ≡ q ∷ [] → (demands_of noting_program q).constraints ≡ [] → Contains (rules_of noting_program t) r → (demands_of noting_program r).constraints ≡ []
only_rule t q r is bare i = grind (arith, common_steps, in_from_contains (q ∷ []) r, in_from_contains)

pub twice_run : (before : List Call) → WholeRun (by_rules noting_program) noting_program adds_and_notes 1 (call_of 0 100) before (one (a_byte 200)) before
twice_run before = record {
  known = contains_from_in (terms_with_rules noting_program) 0 (inl refl);
  single = refl;
  meaning = twice_meaning;
  around = record {
    literals = λ l. refl;
    constants = λ name. refl;
    extractors = λ t v. refl;
    pures = λ t vs a e. added (WholeRun (by_rules noting_program) noting_program adds_and_notes 0) t vs a e;
    typed = refl;
    serves = grind (arith, common_steps);
    apart = apart_of noting_program twice_meaning 0 refl (λ r i. only_rule 0 (rule_of (adding x x)) r refl refl i);
  };
  calls = refl;
  answer = a_result (a_byte 200) refl refl refl;
}

-- 3. `noted` of 100
abbrev noted_meaning : Meaning
noted_meaning =
    from_outside (λ t vs. if (0 == t) && values_eq (value_and (a_byte 100) no_value) vs then Some (one (a_byte 200)) else None)
    (λ t n. if (2 == t) && (0 == n) then Some (one (a_byte 7)) else None)

doubled_within : (t : ℕ) (vs : Values) (a : Content) → noted_meaning.pures t vs ≡ Some a → IsPureAnswer (WholeRun (by_rules noting_program) noting_program adds_and_notes 1) noting_program adds_and_notes t vs a
doubled_within t vs a e = grind (arith, common_steps, and_parts, some_is, eqb-true, eq_all_means, twice_run, none_some)

noted_run : WholeRun (by_rules noting_program) noting_program adds_and_notes 2 (call_of 3 100) [] (one (a_byte 7)) (call_of 2 200 ∷ [])
noted_run = record {
  known = contains_from_in (terms_with_rules noting_program) 3 (inr (inl refl));
  single = refl;
  meaning = noted_meaning;
  around = record {
    literals = λ l. refl;
    constants = λ name. refl;
    extractors = λ t v. refl;
    pures = doubled_within;
    typed = refl;
    serves = grind (arith, common_steps);
    apart = apart_of noting_program noted_meaning 3 refl (λ r i. only_rule 3 noted_rule r refl refl i);
  };
  calls = (one (a_byte 7), call_of 2 200 ∷ [], refl, (refl, refl), refl);
  answer = a_result (a_byte 7) refl refl refl;
}

abbrev twice_site : SiteTerm
twice_site = constructor_call 0 (site_term_and (argument 0) no_site_term) 0

-- 4. the rules of `noted` ask for a call of `twice`, which nests one deeper
no_deeper : (before after : List Call) (c : Content) → WholeRun (by_rules noting_program) noting_program adds_and_notes 1 (call_of 3 100) before c after → ⊥
no_deeper before after c r = answered (pure_answer r.meaning 0 (value_and (a_byte 100) no_value)) refl (r.around.serves.pures [] 0 (site_term_and (argument 0) no_site_term) (value_and (a_byte 100) no_value) (contains_from_in (asked noting_program (rules_of noting_program 3)) twice_site (inr (inl refl))) refl)
  where
    answered : (o : Option Content) → o ≡ pure_answer r.meaning 0 (value_and (a_byte 100) no_value) → IsSomeAnd o (λ a. IsTrue (fits_constructor noting_program 0 (kind noting_program 0) a)) → ⊥
    answered None e h = absurd h
    answered (Some a) e h = r.around.pures 0 (value_and (a_byte 100) no_value) a (sym e) []

pub runs_are_whole_lem : RunsAreWhole
runs_are_whole_lem = record { whole = noted_run; nested = twice_run; too_deep = no_deeper }
