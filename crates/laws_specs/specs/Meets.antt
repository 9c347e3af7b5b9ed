-- What values stand for by specs, and when a meaning answers as they say.
use Rattle.std.specs.Prelude.{◌≡◌, ℕ, ℤ, Bool, true, false, List, [], ◌∷◌, Some, slice_get, Contains}
use Rattle.model.specs.rules.Values.{Value, truth, atom, of_variant, of_struct, Values, no_value, value_and, of_list, has_atoms}
use Rattle.model.specs.rules.Meaning.{Content, one, parts, nothing, just, many, contents, Meaning, bool_literal, int_literal, literal_value, constant_value, extractor_answer, pure_answer, impure_answer}
use Rattle.model.specs.rules.Outcome.{Call, Outcome}
use Rattle.model.specs.rules.Program.{Program, is_partial}
use Rattle.model.specs.rules.RightSide.{result_content}
use Rattle.model.specs.sites.Serves.{is_own_type, is_type_with_parts}
use Rattle.laws_specs.specs.Words.{Denoted, a_truth, an_integer, a_word, variant_of, struct_of, DenotedList, no_denoted, denoted_and, is_plain, is_formed}
use Rattle.laws_specs.specs.Specs.{Sort, is_of_sort, Specs, sort_of, constant_of, literal_of, IsRequired, IsProvided, AreUnknownsSorted}
use Rattle.laws_specs.specs.Conditions.{ToldContent, told, told_parts, told_nothing, told_just, told_many, is_of_type, is_without_atoms, IsExtractedAsSaid, IsConstructedAsSaid}

-- what the atoms of types stand for: all else is fixed by it
abbrev pub Atoms : Type 0
Atoms = ℕ → ℤ → Denoted

abbrev mutual
  pub stands_for : Atoms → Value → Denoted
  stands_for d (truth b) = a_truth b
  stands_for d (atom ty z) = d ty z
  stands_for d (of_variant ty variant fields) = variant_of ty variant (stand_for d fields)
  stands_for d (of_struct ty fields) = struct_of ty (stand_for d fields)

  pub stand_for : Atoms → Values → DenotedList
  stand_for d no_value = no_denoted
  stand_for d (value_and v rest) = denoted_and (stands_for d v) (stand_for d rest)

abbrev pub content_as : Atoms → Content → ToldContent
content_as d (one v) = told (stands_for d v)
content_as d (parts vs) = told_parts (stand_for d vs)
content_as d nothing = told_nothing
content_as d (just c) = told_just (content_as d c)
content_as d (many cs) = told_many

-- atoms stand for what the models of their types say, any function of primitive ones; those of built-in integer types for the
-- numbers that they are; and those of enums with variants for nothing with parts, or for variants where the enum's sort has no words. And
-- unknown functions answer by values of their sorts
pub record IsDenotation (p : Program) (specs : Specs) (d : Atoms) : Type 0 where
  pub formed : (ty : ℕ) (z : ℤ) → is_formed (d ty z) ≡ true
  pub sorted : (ty : ℕ) (z : ℤ) (s : Sort) → sort_of specs ty ≡ Some s → has_atoms (slice_get p.types ty) ≡ true → is_without_atoms p.types specs ty ≡ false → is_of_sort s (d ty z) ≡ true
  pub numbers : (ty : ℕ) (z : ℤ) (x : Denoted) → is_own_type (slice_get p.types ty) ≡ true → literal_of specs z ty ≡ Some x → d ty z ≡ x
  pub plain : (ty : ℕ) (z : ℤ) → is_type_with_parts (slice_get p.types ty) ≡ true → has_atoms (slice_get p.types ty) ≡ true → is_without_atoms p.types specs ty ≡ false → is_plain (d ty z) ≡ true
  pub made : (ty : ℕ) (z : ℤ) → is_without_atoms p.types specs ty ≡ true → is_of_type p.types specs ty (d ty z) ≡ true
  pub unknowns : AreUnknownsSorted specs

-- atoms stand for integers and words alone
abbrev pub is_number : Denoted → Bool
is_number (an_integer z) = true
is_number (a_word width n) = true
is_number _ = false

abbrev pub AreNumbers : Atoms → Type 0
AreNumbers d = (ty : ℕ) (z : ℤ) → is_number (d ty z) ≡ true

-- what a call answers: each answer of a multi call, else the one that there is
abbrev pub answers_in : Content → List Content
answers_in (many cs) = contents cs
answers_in c = c ∷ []

-- literals and constants have values that stand for what is written; extractors and pure constructors answer as their specs say,
-- and so do these impure calls, each by the number of those made before it
pub record MeetsSpecs (specs : Specs) (d : Atoms) (m : Meaning) (calls : List Call) : Type 0 where
  pub bools : (b : Bool) (ty : ℕ) (v : Value) → literal_value m (bool_literal b ty) ≡ Some v → stands_for d v ≡ a_truth b
  pub ints : (z : ℤ) (ty : ℕ) (v : Value) (x : Denoted) → literal_value m (int_literal z ty) ≡ Some v → literal_of specs z ty ≡ Some x → stands_for d v ≡ x
  pub constants : (name : ℕ) (v : Value) (x : Denoted) → constant_value m name ≡ Some v → constant_of specs name ≡ Some x → stands_for d v ≡ x
  pub extractors : (t : ℕ) (v : Value) (c a : Content) → extractor_answer m t v ≡ Some c → Contains (answers_in c) a → IsExtractedAsSaid specs t (stands_for d v) (content_as d a)
  pub pures : (t : ℕ) (vs : Values) (c a : Content) → pure_answer m t vs ≡ Some c → Contains (answers_in c) a → IsConstructedAsSaid specs t (stand_for d vs) (content_as d a)
  pub impures : (before : ℕ) (call : Call) (c a : Content) → slice_get calls before ≡ Some call → impure_answer m call.term before ≡ Some c → Contains (answers_in c) a
      → IsConstructedAsSaid specs call.term (stand_for d call.args) (content_as d a)

-- the arguments meet the term's require
abbrev pub IsCalledAsRequired : Specs → ℕ → Atoms → List Value → Type 0
IsCalledAsRequired specs t d args = IsRequired specs t (stand_for d (of_list args))

-- the result is what the term's spec provides, and each impure call that is made meets its require, also where a failure follows
pub record AnswersAsSaid (p : Program) (specs : Specs) (t : ℕ) (d : Atoms) (args : List Value) (o : Outcome) : Type 0 where
  pub result : (v : Value) → o.results ≡ result_content (is_partial p t) v ∷ [] → IsProvided specs t (stand_for d (of_list args)) (stands_for d v)
  pub calls : (call : Call) → Contains o.calls call → IsRequired specs call.term (stand_for d call.args)

-- a result is a value that the term's spec provides
abbrev pub IsResultAsSaid : Program → Specs → ℕ → Atoms → List Value → Content → Type 0
IsResultAsSaid p specs t d args c = (v : Value) × (c ≡ result_content (is_partial p t) v) × IsProvided specs t (stand_for d (of_list args)) (stands_for d v)
