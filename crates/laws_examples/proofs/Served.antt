-- The samples' meanings serve their rules and tell their constants apart; meanings without literals or calls don't serve.
use Rattle.std.proofs.Common.{◌≡◌, [], ◌==◌, ℕ, ℤ, pos, zero, suc, Bool, true, false, not, ◌&&◌, if◌then◌else◌, slice_get, List, take, Option, Some, None, All, Contains, IsTrue, is_some, refl, ap, arith, IsSomeAnd}
use Rattle.std.proofs.lemmas.Grind.{common_steps}
use Rattle.std.specs.List.{list_all}
use Rattle.std.proofs.lemmas.Bool.{and_parts, false≢true, or_cases}
use Rattle.std.proofs.lemmas.List.Elements.{All-nil}
use Rattle.std.proofs.lemmas.Option.{none-some, same_Some}
use Rattle.model.proofs.ValuesEqual.{eq_means}
use Rattle.model.proofs.Members.{each_passes}
use Rattle.model.specs.rules.Matching.{matches}
use Rattle.model.specs.rules.Meaning.{Content, Meaning, bool_literal, constant_value, extractor_answer, impure_answer, int_literal, literal_value, look, nothing, one, pure_answer}
use Rattle.model.specs.rules.Picks.{HasContent, Pick, site_content, site_values}
use Rattle.model.specs.rules.Program.{Program, kind}
use Rattle.model.specs.rules.Typed.{TypedRule}
use Rattle.model.specs.rules.Values.{Value, Values, atom, truth, value_eq, well_typed}
use Rattle.model.specs.visits.Demands.{demands_of}
use Rattle.model.specs.sites.Serves.{Serves, TellsConstantsApart, asked, constant_type, fits_constructor, fits_extractor, is_open_constant, is_own_type, tested_constants, typed_as}
use Rattle.model.specs.sites.Sites.{SiteTerm, SiteTerms, argument, bool_term, constructor_call, extractor_call, int_term, no_site_term, prim_term, site_term_and}
use Rattle.laws_examples.specs.Extract.{ExtractMeaningServes, extract_meaning, extract_mute, extract_program, extract_rules}
use Rattle.laws_examples.specs.MeaningForms.{DoesNotServe, alone, blank, given, v}
use Rattle.laws_examples.specs.Multi.{MultiIsServed, multi_meaning, multi_mute, multi_program, multi_rules}
use Rattle.laws_examples.specs.Partial.{PartialIsServed, partial_call, partial_meaning, partial_mute, partial_program, partial_rules}

-- 1. literals with well-typed values, and calls that a test passes
abbrev pub some_and : Option Value → (Value → Bool) → Bool
some_and None f = false
some_and (Some w) f = f w

pub some_and_is : (o : Option Value) (f : Value → Bool) (w : Value) → some_and o (λ u. f u && value_eq u w) ≡ true → o ≡ Some w
some_and_is None f w h = absurd (false≢true h)
some_and_is (Some u) f w h = ap Some (eq_means u w (and_parts (f u) (value_eq u w) h).1)

pub some_and_first : (o : Option Value) (f g : Value → Bool) → some_and o (λ u. f u && g u) ≡ true → some_and o f ≡ true
some_and_first o f g h = grind (arith, common_steps, and_parts)

pub some_and_means : (o : Option Value) (f : Value → Bool) → some_and o f ≡ true → IsSomeAnd o (λ w. IsTrue (f w))
some_and_means o f h = grind (arith, common_steps)

module _ (p : Program) (m : Meaning) (call : SiteTerm → Bool) where
  -- a literal of a built-in type has the value that is written
  abbrev written : ℤ → ℕ → Bool
  written z ty = if is_own_type (slice_get p.types ty) then some_and (literal_value m (int_literal z ty)) (λ w. well_typed p.types ty w && value_eq w (atom ty z)) else true

  abbrev passes : SiteTerm → Bool
  passes (bool_term b ty) = some_and (literal_value m (bool_literal b ty)) (λ w. well_typed p.types ty w && value_eq w (truth b))
  passes (int_term z ty) = some_and (literal_value m (int_literal z ty)) (λ w. well_typed p.types ty w) && written z ty
  passes (prim_term name) = some_and (constant_value m name) (λ w. typed_as p (constant_type p name) w)
  passes u = call u

  pub serves_from : (args : List Value) (rs : List TypedRule) → list_all passes (asked p rs) ≡ true → list_all (λ r. list_all passes (demands_of p r).made) rs ≡ true
      → ((k : Pick) (t : ℕ) (s : SiteTerm) (w : Value) → call (extractor_call t s) ≡ true → site_content m args k s ≡ Some (one w) → IsSomeAnd (extractor_answer m t w) (λ c. IsTrue (fits_extractor p t (kind p t) c)))
      → ((k : Pick) (t : ℕ) (ss : SiteTerms) (vs : Values) → call (constructor_call t ss 0) ≡ true → site_values m args k ss ≡ Some vs → IsSomeAnd (pure_answer m t vs) (λ c. IsTrue (fits_constructor p t (kind p t) c)))
      → ((k : Pick) (r : TypedRule) (t before : ℕ) (ss : SiteTerms) → Contains rs r → IsTrue (is_some (matches p m r args)) → Contains (demands_of p r).made (constructor_call t ss (suc before))
      → call (constructor_call t ss (suc before)) ≡ true → All (HasContent m args k) (take before (demands_of p r).impure)
      → IsSomeAnd (impure_answer m t before) (λ c. IsTrue (fits_constructor p t (kind p t) c)))
      → Serves p m args rs
  serves_from args rs h g extractors pures impures = record {
    bools = grind (arith, common_steps, some_and_means, some_and_first, each_passes);
    ints = grind (arith, common_steps, some_and_means, and_parts, each_passes);
    written_bools = λ b ty c. some_and_is (literal_value m (bool_literal b ty)) (λ w. well_typed p.types ty w) (truth b) (each_passes passes (asked p rs) h (bool_term b ty) c);
    written_ints = grind (arith, common_steps, some_and_is, and_parts, each_passes);
    prims = λ name c. some_and_means (constant_value m name) (λ w. typed_as p (constant_type p name) w) (each_passes passes (asked p rs) h (prim_term name) c);
    extractors = λ k t s w c holds. extractors k t s w (each_passes passes (asked p rs) h (extractor_call t s) c) holds;
    pures = λ k t ss vs c holds. pures k t ss vs (each_passes passes (asked p rs) h (constructor_call t ss 0) c) holds;
    impures = λ k r t before ss vs i matched made gave holds.
        impures k r t before ss i matched made (each_passes passes (demands_of p r).made (each_passes (λ q. list_all passes (demands_of p q).made) rs g r i) (constructor_call t ss (suc before)) made) gave;
  }

-- 2. rules whose patterns name no constants but literals of built-in types
no_constants : (p : Program) (name : ℕ) → p.constants ≡ [] → constant_type p name ≡ None
no_constants p name g = ap (λ l. look (λ k. k == name) l) g

abbrev pub are_written : Program → List TypedRule → Bool
are_written p rs = list_all (λ a. not (is_open_constant p a)) (tested_constants p rs)

pub literals_apart : (p : Program) (m : Meaning) (rs : List TypedRule) → are_written p rs ≡ true → p.constants ≡ [] → TellsConstantsApart p m rs
literals_apart p m rs h g = grind (arith, common_steps, no_constants p, or_cases, none-some, no_constants, each_passes)

-- 3. a call of an extractor, whatever fitting answer it gives
-- what it answers on the argument, it answers on the value that stands there
pub answers_argument : (p : Program) (m : Meaning) (z : ℤ) (k : Pick) (w : Value) → IsSomeAnd (extractor_answer m 0 (v z)) (λ c. IsTrue (fits_extractor p 0 (kind p 0) c))
    → site_content m (given z) k (argument 0) ≡ Some (one w) → IsSomeAnd (extractor_answer m 0 w) (λ c. IsTrue (fits_extractor p 0 (kind p 0) c))
answers_argument p m z k w fits e = grind (arith, common_steps, same_Some (v z) w, same_Some)

abbrev extract_call : SiteTerm → Bool
extract_call (extractor_call zero (argument zero)) = true
extract_call (extractor_call t s) = false
extract_call (constructor_call t ss i) = false
extract_call u = true

module _ (answer : Content) (fits : IsTrue (fits_extractor extract_program 0 (kind extract_program 0) answer)) where
  extract_answers : (k : Pick) (t : ℕ) (s : SiteTerm) (w : Value) → extract_call (extractor_call t s) ≡ true → site_content (extract_meaning answer) (given (pos 7)) k s ≡ Some (one w)
      → IsSomeAnd (extractor_answer (extract_meaning answer) t w) (λ c. IsTrue (fits_extractor extract_program t (kind extract_program t) c))
  extract_answers k t s w h e = grind (arith, common_steps, answers_argument)

  extract_serves : Serves extract_program (extract_meaning answer) (given (pos 7)) extract_rules.rules
  extract_serves =
      serves_from extract_program (extract_meaning answer) extract_call (given (pos 7)) extract_rules.rules refl refl
      extract_answers (λ k t ss vs h holds. absurd (false≢true h)) (λ k r t before ss i matched made h gave. absurd (false≢true h))

pub extract_served : ExtractMeaningServes
extract_served = grind (arith, common_steps, extract_serves, literals_apart)

pub blank_extract : DoesNotServe extract_program blank (pos 7)
blank_extract s = s.ints (pos 10) 1 (3, omega arith, refl)

pub mute_extract : DoesNotServe extract_program extract_mute (pos 7)
mute_extract s = s.extractors [] 0 (argument 0) (v (pos 7)) (1, omega arith, refl) refl

-- 4. an impure call
abbrev pub call_of_g : SiteTerm → Bool
call_of_g (constructor_call zero ss (suc zero)) = true
call_of_g (constructor_call t ss i) = false
call_of_g (extractor_call t s) = false
call_of_g u = true

pub pure_none : (t : ℕ) (ss : SiteTerms) → call_of_g (constructor_call t ss 0) ≡ true → ⊥
pure_none t ss h = grind (arith, common_steps)

pub partial_served : PartialIsServed
partial_served = (
  serves_from partial_program (partial_meaning nothing) call_of_g (given (pos 1)) partial_rules.rules refl refl
      (λ k t s w h holds. absurd (false≢true h)) (λ k t ss vs h holds. absurd (pure_none t ss h)) (λ k r t before ss i matched made h gave. grind (arith, common_steps)),
  literals_apart partial_program (partial_meaning nothing) partial_rules.rules refl refl,
)

pub blank_partial : DoesNotServe partial_program blank (pos 1)
blank_partial s = s.ints (pos 1) 1 (1, omega arith, refl)

pub mute_partial : DoesNotServe partial_program partial_mute (pos 1)
mute_partial s =
    s.impures [] partial_call 0 0 (site_term_and (int_term (pos 1) 1) no_site_term) (alone (pos 1)) (0, omega arith, refl) refl (2, omega arith, refl) (All-nil (HasContent partial_mute (given (pos 1)) [])) refl

-- 5. a multi call
abbrev multi_call : SiteTerm → Bool
multi_call (constructor_call zero (site_term_and (argument zero) no_site_term) zero) = true
multi_call (constructor_call t ss i) = false
multi_call (extractor_call t s) = false
multi_call u = true

multi_answers : (k : Pick) (t : ℕ) (ss : SiteTerms) (vs : Values) → multi_call (constructor_call t ss 0) ≡ true → site_values multi_meaning (given (pos 1)) k ss ≡ Some vs
    → IsSomeAnd (pure_answer multi_meaning t vs) (λ c. IsTrue (fits_constructor multi_program t (kind multi_program t) c))
multi_answers k t ss vs h e = grind (arith, common_steps, same_Some)

pub multi_served : MultiIsServed
multi_served = (
  serves_from multi_program multi_meaning multi_call (given (pos 1)) multi_rules.rules refl refl
      (λ k t s w h holds. absurd (false≢true h)) multi_answers (λ k r t before ss i matched made h gave. absurd (grind arith)),
  literals_apart multi_program multi_meaning multi_rules.rules refl refl,
)

pub blank_multi : DoesNotServe multi_program blank (pos 1)
blank_multi s = s.ints (pos 9) 1 (4, omega arith, refl)

pub mute_multi : DoesNotServe multi_program multi_mute (pos 1)
mute_multi s = s.pures [] 0 (site_term_and (argument 0) no_site_term) (alone (pos 1)) (1, omega arith, refl) refl

-- 6. rules without calls
abbrev no_call : SiteTerm → Bool
no_call (extractor_call t s) = false
no_call (constructor_call t ss i) = false
no_call u = true

pub serves_without_calls : (p : Program) (m : Meaning) (args : List Value) (rs : List TypedRule) → list_all (passes p m no_call) (asked p rs) ≡ true
    → list_all (λ r. list_all (passes p m no_call) (demands_of p r).made) rs ≡ true → Serves p m args rs
serves_without_calls p m args rs h g = grind (arith, common_steps, serves_from)
