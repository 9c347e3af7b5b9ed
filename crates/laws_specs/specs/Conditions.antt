-- The condition of a rule: what its sites may hold where it is taken, and what is to be shown of them by the specs.
use Rattle.std.specs.Prelude.{◌≡◌, ℕ, suc, Bool, true, false, not, ◌&&◌, ◌||◌, List, [], ◌∷◌, ◌++◌, ◌<ℤ◌, Option, Some, None, slice_get, is_some, Contains, IsTrue}
use Rattle.std.specs.Bool.{◌==◌}
use Rattle.model.specs.lists.Tables.{TypeEntry}
use Rattle.model.specs.rules.Outcome.{then_option}
use Rattle.model.specs.rules.Program.{Program, arg_types, rules_of}
use Rattle.model.specs.rules.Typed.{TypedRule}
use Rattle.model.specs.rules.Values.{is_truth_type, has_atoms, variant_types, struct_types}
use Rattle.model.specs.sites.Sites.{Constraint, is_variant, is_struct, is_bool, is_int, is_prim, is_present, SiteTerm, bool_term, int_term, prim_term, argument, extractor_call, constructor_call, pick_of, variant_made, variant_field, struct_made, struct_field, some_made, some_part, tuple_part, no_site, SiteTerms, no_site_term, site_term_and}
use Rattle.model.specs.sites.Serves.{constant_type, is_type_with_parts, term_args, term_results}
use Rattle.model.specs.visits.Demands.{demands_of, result_of}
use Rattle.laws_specs.specs.Words.{Denoted, a_truth, variant_of, struct_of, DenotedList, no_denoted, denoted_and, denoted_list, is_plain, is_formed, are_formed}
use Rattle.laws_specs.specs.Specs.{Sort, truths, is_of_sort, is_closed, Specs, sort_of, constant_of, literal_of, IsRequired, IsProvided, AreUnknownsSorted}

-- what a content stands for; the answers of a multi call are told at the sites that pick them
pub data ToldContent : Type 0 where
  told : (x : Denoted) → ToldContent
  told_parts : (xs : DenotedList) → ToldContent
  told_nothing : ToldContent
  told_just : (h : ToldContent) → ToldContent
  told_many : ToldContent

abbrev pub is_told_formed : ToldContent → Bool
is_told_formed (told x) = is_formed x
is_told_formed (told_parts xs) = are_formed xs
is_told_formed told_nothing = true
is_told_formed (told_just h) = is_told_formed h
is_told_formed told_many = true

-- the outputs of an extractor that answers
abbrev pub told_outputs : ToldContent → Option DenotedList
told_outputs (told x) = Some (denoted_and x no_denoted)
told_outputs (told_parts xs) = Some xs
told_outputs _ = None

abbrev pub answered_as : ToldContent → Option DenotedList
answered_as (told_just h) = told_outputs h
answered_as h = told_outputs h

-- the one result of a constructor that answers
abbrev pub as_denoted : ToldContent → Option Denoted
as_denoted (told x) = Some x
as_denoted _ = None

abbrev pub result_as : ToldContent → Option Denoted
result_as (told_just h) = as_denoted h
result_as h = as_denoted h

-- what sites stand for, where they hold something
abbrev pub Valuation : Type 0
Valuation = SiteTerm → Option ToldContent

abbrev pub denoted_at : Valuation → SiteTerm → Option Denoted
denoted_at f s = then_option (f s) as_denoted

abbrev pub denoted_at_each : Valuation → SiteTerms → Option DenotedList
denoted_at_each f no_site_term = Some no_denoted
denoted_at_each f (site_term_and s rest) = then_option (denoted_at f s) (λ x. then_option (denoted_at_each f rest) (λ xs. Some (denoted_and x xs)))

-- one field of a variant or a struct, or one part of an answer
pub record IsPartHeld (xs : DenotedList) (i : ℕ) (h : ToldContent) : Type 0 where
  pub part : Denoted
  pub there : slice_get (denoted_list xs) i ≡ Some part
  pub held : h ≡ told part

-- what a site stands for, by its parts
abbrev pub IsHeldAs : Specs → DenotedList → Valuation → SiteTerm → ToldContent → Type 0
IsHeldAs specs args f (bool_term b ty) h = h ≡ told (a_truth b)
IsHeldAs specs args f (int_term z ty) h = (x : Denoted) → literal_of specs z ty ≡ Some x → h ≡ told x
IsHeldAs specs args f (prim_term name) h = (x : Denoted) → constant_of specs name ≡ Some x → h ≡ told x
IsHeldAs specs args f (argument i) h = IsPartHeld args i h
IsHeldAs specs args f (extractor_call t s) h = (x : Denoted) × (f s ≡ Some (told x))
IsHeldAs specs args f (constructor_call t ss n) h = (xs : DenotedList) × (denoted_at_each f ss ≡ Some xs)
IsHeldAs specs args f (pick_of s) h = f s ≡ Some told_many
IsHeldAs specs args f (variant_made ty variant ss) h = (xs : DenotedList) × (denoted_at_each f ss ≡ Some xs) × (h ≡ told (variant_of ty variant xs))
IsHeldAs specs args f (variant_field s variant i) h = (ty : ℕ) × (xs : DenotedList) × (f s ≡ Some (told (variant_of ty variant xs))) × IsPartHeld xs i h
IsHeldAs specs args f (struct_made ty ss) h = (xs : DenotedList) × (denoted_at_each f ss ≡ Some xs) × (h ≡ told (struct_of ty xs))
IsHeldAs specs args f (struct_field s i) h = (ty : ℕ) × (xs : DenotedList) × (f s ≡ Some (told (struct_of ty xs))) × IsPartHeld xs i h
IsHeldAs specs args f (some_made s) h = (g : ToldContent) × (f s ≡ Some g) × (h ≡ told_just g)
IsHeldAs specs args f (some_part s) h = f s ≡ Some (told_just h)
IsHeldAs specs args f (tuple_part s i) h = (xs : DenotedList) × (f s ≡ Some (told_parts xs)) × IsPartHeld xs i h
IsHeldAs specs args f no_site h = ⊥

-- what a constraint says of what a site stands for: of a number or a constant that stands for nothing, nothing
abbrev pub IsMetAs : Specs → Valuation → SiteTerm → Constraint → Type 0
IsMetAs specs f s (is_variant ty variant fields) = (xs : DenotedList) × (f s ≡ Some (told (variant_of ty variant xs)))
IsMetAs specs f s (is_struct ty fields) = (xs : DenotedList) × (f s ≡ Some (told (struct_of ty xs)))
IsMetAs specs f s (is_bool b ty) = f s ≡ Some (told (a_truth b))
IsMetAs specs f s (is_int z ty) = (x : Denoted) → literal_of specs z ty ≡ Some x → f s ≡ Some (told x)
IsMetAs specs f s (is_prim name) = (x : Denoted) → constant_of specs name ≡ Some x → f s ≡ Some (told x)
IsMetAs specs f s is_present = (h : ToldContent) × (f s ≡ Some (told_just h))

-- an extractor that answers: what it looks at is its spec's result, and its outputs are the arguments
abbrev pub IsExtractedAsSaid : Specs → ℕ → Denoted → ToldContent → Type 0
IsExtractedAsSaid specs t x h = (xs : DenotedList) → answered_as h ≡ Some xs → IsRequired specs t xs × IsProvided specs t xs x

-- a constructor that answers, called where its require holds
abbrev pub IsConstructedAsSaid : Specs → ℕ → DenotedList → ToldContent → Type 0
IsConstructedAsSaid specs t xs h = IsRequired specs t xs → (x : Denoted) → result_as h ≡ Some x → IsProvided specs t xs x

-- what a site holds that answers a call is as the call's spec says: the call's own site, or the one that picks an answer of a
-- multi call
abbrev pub IsAnsweredAsSaid : Specs → Valuation → SiteTerm → SiteTerm → Type 0
IsAnsweredAsSaid specs f (extractor_call t s) u = (x : Denoted) (h : ToldContent) → f s ≡ Some (told x) → f u ≡ Some h → IsExtractedAsSaid specs t x h
IsAnsweredAsSaid specs f (constructor_call t ss n) u = (xs : DenotedList) (h : ToldContent) → denoted_at_each f ss ≡ Some xs → f u ≡ Some h → IsConstructedAsSaid specs t xs h
IsAnsweredAsSaid specs f _ u = Unit {0}

-- an impure call has a number, from 1
abbrev pub is_impure_call : SiteTerm → Bool
is_impure_call (constructor_call t ss (suc n)) = true
is_impure_call _ = false

-- the call that a site is the answer of, unwrapped or not
abbrev pub call_of : SiteTerm → SiteTerm
call_of (some_part s) = s
call_of s = s

-- what a type's values stand for: truths, what its model says, variants and structs of such; where there is no model, anything.
-- An atom of a type that has variants too stands for nothing with parts
abbrev pub is_modelled_as : Option Sort → Denoted → Bool
is_modelled_as None x = true
is_modelled_as (Some s) x = is_of_sort s x

abbrev pub is_atom_as : Option TypeEntry → Option Sort → Denoted → Bool
is_atom_as o s x = is_modelled_as s x && (not (is_type_with_parts o) || is_plain x)

abbrev pub is_of_atoms : List TypeEntry → Specs → ℕ → Denoted → Bool
is_of_atoms types specs ty x = (is_truth_type (slice_get types ty) && is_of_sort truths x) || (has_atoms (slice_get types ty) && is_atom_as (slice_get types ty) (sort_of specs ty) x)

abbrev mutual
  pub is_of_type : List TypeEntry → Specs → ℕ → Denoted → Bool
  is_of_type types specs ty (variant_of t i xs) = is_of_atoms types specs ty (variant_of t i xs) || ((t == ty) && are_of_types types specs (variant_types (slice_get types ty) i) xs)
  is_of_type types specs ty (struct_of t xs) = is_of_atoms types specs ty (struct_of t xs) || ((t == ty) && are_of_types types specs (struct_types (slice_get types ty)) xs)
  is_of_type types specs ty x = is_of_atoms types specs ty x

  pub are_of_types : List TypeEntry → Specs → Option (List ℕ) → DenotedList → Bool
  are_of_types types specs (Some []) no_denoted = true
  are_of_types types specs (Some (ty ∷ tys)) (denoted_and x xs) = is_of_type types specs ty x && are_of_types types specs (Some tys) xs
  are_of_types types specs _ _ = false

-- of a type whose sort has no words there are no atoms: all that it has are its variants
abbrev pub is_without_atoms : List TypeEntry → Specs → ℕ → Bool
is_without_atoms types specs ty = has_atoms (slice_get types ty) && (is_type_with_parts (slice_get types ty) && is_closed (sort_of specs ty))

-- an answer is of its call's types: the outputs of an extractor those of its term's arguments, a constructor's result that of
-- its term; and a named constant is of its type
abbrev pub are_of_entries : Program → Specs → List ℕ → DenotedList → Bool
are_of_entries p specs tys xs = are_of_types p.types specs (Some tys) xs

-- what is unwrapped of an answer is what the call gives: outputs, or the one result
abbrev pub HasOutputs : ToldContent → Type 0
HasOutputs h = (g : ToldContent) → h ≡ told_just g → (xs : DenotedList) × (told_outputs g ≡ Some xs)

abbrev pub HasResult : ToldContent → Type 0
HasResult h = (g : ToldContent) → h ≡ told_just g → (x : Denoted) × (as_denoted g ≡ Some x)

abbrev pub IsTypedAs : Program → Specs → SiteTerm → ToldContent → Type 0
IsTypedAs p specs (extractor_call t s) h = ((xs : DenotedList) → answered_as h ≡ Some xs → IsTrue (are_of_entries p specs (term_args (slice_get p.terms t)) xs)) × HasOutputs h
IsTypedAs p specs (constructor_call t ss n) h = ((x : Denoted) → result_as h ≡ Some x → IsTrue (are_of_entries p specs (term_results (slice_get p.terms t)) (denoted_and x no_denoted))) × HasResult h
IsTypedAs p specs (prim_term name) h = (ty : ℕ) (x : Denoted) → constant_type p name ≡ Some ty → h ≡ told x → IsTrue (is_of_type p.types specs ty x)
IsTypedAs p specs _ h = Unit {0}

-- the condition of a rule: what it demands, the sites that it makes, its impure calls in order, its result's site
pub record Condition : Type 0 where
  pub term : ℕ
  pub constraints : List (SiteTerm × Constraint)
  pub equalities : List (SiteTerm × SiteTerm)
  pub made : List SiteTerm
  pub impure : List SiteTerm
  pub result : SiteTerm

abbrev pub condition : Program → TypedRule → Condition
condition p r = record {
  term = r.root_term;
  constraints = (demands_of p r).constraints;
  equalities = (demands_of p r).equalities;
  made = (demands_of p r).made;
  impure = (demands_of p r).impure;
  result = result_of p r;
}

-- what is assumed: arguments of the term's types under its require; sites stand for what their parts make; words lie below 2 to
-- their width; what the rule demands is met; and pure calls and extractors answer as their specs say, by
-- values of their types, those that answer lists by each of their answers. Named constants are of their types too, and what unknown
-- functions answer is of their sorts
pub record IsAssumed (p : Program) (specs : Specs) (c : Condition) (args : DenotedList) (f : Valuation) : Type 0 where
  pub arguments : IsTrue (are_of_types p.types specs (Some (arg_types p c.term)) args)
  pub formed_args : IsTrue (are_formed args)
  pub required : IsRequired specs c.term args
  pub unknowns : AreUnknownsSorted specs
  pub held : (s : SiteTerm) (h : ToldContent) → f s ≡ Some h → IsHeldAs specs args f s h
  pub formed : (s : SiteTerm) (h : ToldContent) → f s ≡ Some h → IsTrue (is_told_formed h)
  pub constraints : (s : SiteTerm) (k : Constraint) → Contains c.constraints (s, k) → IsMetAs specs f s k
  pub equalities : (a b : SiteTerm) → Contains c.equalities (a, b) → (x : Denoted) × (f a ≡ Some (told x)) × (f b ≡ Some (told x))
  pub calls : (s : SiteTerm) → Contains c.made s → is_impure_call s ≡ false → IsAnsweredAsSaid specs f s s
  pub typed : (s : SiteTerm) (h : ToldContent) → Contains c.made s → is_impure_call s ≡ false → f s ≡ Some h → IsTypedAs p specs s h
  pub picks : (s : SiteTerm) → Contains c.made s → is_impure_call s ≡ false → IsAnsweredAsSaid specs f s (pick_of s)
  pub typed_picks : (s : SiteTerm) (h : ToldContent) → Contains c.made s → is_impure_call s ≡ false → f (pick_of s) ≡ Some h → IsTypedAs p specs s h

-- an impure call was made: it gave something, of its types and by its spec
pub record IsCallMade (p : Program) (specs : Specs) (f : Valuation) (u : SiteTerm) : Type 0 where
  pub gave : IsTrue (is_some (f u))
  pub answered : IsAnsweredAsSaid specs f (call_of u) (call_of u)
  pub typed : (h : ToldContent) → f (call_of u) ≡ Some h → IsTypedAs p specs (call_of u) h

abbrev pub AreMade : Program → Specs → Valuation → List SiteTerm → Type 0
AreMade p specs f us = (u : SiteTerm) → Contains us u → IsCallMade p specs f u

-- the goals: after all impure calls the result is what the term's spec provides, each unwrap of it being there; and where those
-- before it were made, an impure call meets its require
pub record IsShown (p : Program) (specs : Specs) (c : Condition) (args : DenotedList) (f : Valuation) : Type 0 where
  pub provides : (h : ToldContent) (x : Denoted) → AreMade p specs f c.impure → f c.result ≡ Some h → result_as h ≡ Some x → IsProvided specs c.term args x
  pub requires : (before after : List SiteTerm) (u : SiteTerm) (t n : ℕ) (ss : SiteTerms) (xs : DenotedList) → c.impure ≡ before ++ u ∷ after → AreMade p specs f before
      → call_of u ≡ constructor_call t ss n → denoted_at_each f ss ≡ Some xs → IsRequired specs t xs

-- valid: the goals hold under every valuation that is assumed
abbrev pub IsValid : Program → Specs → Condition → Type 0
IsValid p specs c = (args : DenotedList) (f : Valuation) → IsAssumed p specs c args f → IsShown p specs c args f

-- a rule of the term with greater priority
abbrev pub IsAbove : Program → TypedRule → TypedRule → Type 0
IsAbove p r q = Contains (rules_of p r.root_term) q × (r.prio <ℤ q.prio)

-- constraints that what a site stands for decides: different values may stand for one number
abbrev pub is_told_apart : Constraint → Bool
is_told_apart (is_variant ty variant fields) = true
is_told_apart (is_struct ty fields) = true
is_told_apart (is_bool b ty) = true
is_told_apart (is_int z ty) = false
is_told_apart (is_prim name) = false
is_told_apart is_present = true

-- sites that hold something wherever their parts do
abbrev pub is_of_parts : SiteTerm → Bool
is_of_parts (argument i) = true
is_of_parts (variant_made ty variant ss) = true
is_of_parts (variant_field s variant i) = true
is_of_parts (struct_made ty ss) = true
is_of_parts (struct_field s i) = true
is_of_parts (some_made s) = true
is_of_parts (some_part s) = true
is_of_parts (tuple_part s i) = true
is_of_parts _ = false

-- no rule of greater priority matches, by truths for constraints and equalities: those of the rule are true; one that is true
-- says what it says of what sites stand for; of numbers, constants and equalities nothing makes it true; and of each rule above
-- one is false. Sites that no part of the rule speaks of are there too: arguments, fields, parts
pub record IsNoneAbove (p : Program) (specs : Specs) (r : TypedRule) (args : DenotedList) (f : Valuation) : Type 0 where
  pub there : (s : SiteTerm) (h : ToldContent) → is_of_parts s ≡ true → IsHeldAs specs args f s h → f s ≡ Some h
  pub constraint : SiteTerm → Constraint → Bool
  pub equality : SiteTerm → SiteTerm → Bool
  pub own : (s : SiteTerm) (k : Constraint) → Contains (demands_of p r).constraints (s, k) → constraint s k ≡ true
  pub own_equality : (a b : SiteTerm) → Contains (demands_of p r).equalities (a, b) → equality a b ≡ true
  pub met : (s : SiteTerm) (k : Constraint) → constraint s k ≡ true → IsMetAs specs f s k
  pub equal : (a b : SiteTerm) → equality a b ≡ true → (x : Denoted) × (f a ≡ Some (told x)) × (f b ≡ Some (told x))
  pub decided : (q : TypedRule) (s : SiteTerm) (k : Constraint) → IsAbove p r q → Contains (demands_of p q).constraints (s, k) → is_told_apart k ≡ true
      → IsMetAs specs f s k → constraint s k ≡ true
  pub none : (q : TypedRule) → IsAbove p r q → ((s : SiteTerm) (k : Constraint) → Contains (demands_of p q).constraints (s, k) → constraint s k ≡ true)
      → ((a b : SiteTerm) → Contains (demands_of p q).equalities (a, b) → equality a b ≡ true) → ⊥

-- valid where no rule of greater priority matches
abbrev pub IsValidBelow : Program → Specs → TypedRule → Type 0
IsValidBelow p specs r = (args : DenotedList) (f : Valuation) → IsAssumed p specs (condition p r) args f → IsNoneAbove p specs r args f → IsShown p specs (condition p r) args f
