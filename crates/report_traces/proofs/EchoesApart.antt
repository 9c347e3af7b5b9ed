-- Echoes tell constants apart, and so choose as source rules do.
use Rattle.std.proofs.Common.{◌≡◌, ℕ, ℤ, pos, ◌+ℤ◌, Bool, true, false, List, Option, Some, None, slice_get, Contains, sym, ap, ◌∙◌, subst, arith}
use Rattle.std.proofs.lemmas.Bool.{false≢true, true≢false}
use Rattle.std.proofs.lemmas.Int.{ints}
use Rattle.cranelift_isle.specs.Values.{Value, truth, atom}
use Rattle.cranelift_isle.specs.Meaning.{total}
use Rattle.cranelift_isle.specs.Program.{Program, rules_of}
use Rattle.cranelift_isle.specs.Typed.{TypedRule}
use Rattle.cranelift_isle.specs.Sites.{SiteTerm, bool_term, int_term, prim_term, argument, extractor_call, constructor_call, pick_of, variant_made, variant_field, struct_made, struct_field, some_made, some_part, tuple_part, no_site}
use Rattle.cranelift_isle.specs.Serves.{constant_type, tested_constants, written_type, written_value}
use Rattle.cranelift_isle.specs.ElaboratedLists.{program_of}
use Rattle.model.proofs.Elements.{some_is, none_some}
use Rattle.laws_trees.specs.TotalLaws.{matched_by, called_by}
use Rattle.laws_trees.proofs.total.Total.{runs_by_functions_as_chosen_lem}
use Rattle.report_traces.specs.Echoes.{constant_number, named_value, echoes}
use Rattle.report_traces.specs.EchoLaws.{AreConstantTypesOf, WritesNoConstant, EchoesKeepConstantsApart, EchoesChooseAsSource}
use Rattle.report_traces.proofs.EchoesFit.{echoes_are_well_typed_lem}

same_place : (k : ℤ) (m n : ℕ) → k +ℤ pos m ≡ k +ℤ pos n → m ≡ n
same_place k m n e = omega (arith, ints, e)

is : {X : Type 0} {x y : X} → Some x ≡ Some y → x ≡ y
is {x = x} {y = y} e = some_is x y e

none : {X : Type 0} {x : X} → None ≡ Some x → ⊥
none {x = x} e = none_some x e

-- a constant of a type, as it is written
data Constant (p : Program) (ty : ℕ) : SiteTerm → Type 0 where
  a_bool : (b : Bool) → Constant p ty (bool_term b ty)
  an_int : (z : ℤ) → Constant p ty (int_term z ty)
  a_prim : (name : ℕ) → constant_type p name ≡ Some ty → Constant p ty (prim_term name)

constant_of : (p : Program) (ty : ℕ) (s : SiteTerm) → written_type p s ≡ Some ty → Constant p ty s
constant_of p ty (bool_term b s) h = subst (λ x. Constant p ty (bool_term b x)) (sym (is h)) (a_bool b)
constant_of p ty (int_term z s) h = subst (λ x. Constant p ty (int_term z x)) (sym (is h)) (an_int z)
constant_of p ty (prim_term name) h = a_prim name h
constant_of p ty (argument i) h = absurd (none h)
constant_of p ty (extractor_call t s) h = absurd (none h)
constant_of p ty (constructor_call t ss i) h = absurd (none h)
constant_of p ty (pick_of s) h = absurd (none h)
constant_of p ty (variant_made s i ss) h = absurd (none h)
constant_of p ty (variant_field s i j) h = absurd (none h)
constant_of p ty (struct_made s ss) h = absurd (none h)
constant_of p ty (struct_field s i) h = absurd (none h)
constant_of p ty (some_made s) h = absurd (none h)
constant_of p ty (some_part s) h = absurd (none h)
constant_of p ty (tuple_part s i) h = absurd (none h)
constant_of p ty no_site h = absurd (none h)

module _ (p : Program) (types : ℕ → Option ℕ) (same : AreConstantTypesOf p types) (ty : ℕ) where
  -- the value of a named constant
  value_of : (name : ℕ) → constant_type p name ≡ Some ty → named_value (types name) name ≡ atom ty (constant_number name)
  value_of name h = ap (λ o. named_value o name) (same name ∙ h)

  abbrev number_of : Value → ℤ
  number_of (atom s z) = z
  number_of _ = pos 0

  abbrev is_truth : Value → Bool
  is_truth (truth b) = true
  is_truth _ = false

  abbrev truth_of : Value → Bool
  truth_of (truth b) = b
  truth_of _ = false

  numbers : {a b : Value} → a ≡ b → number_of a ≡ number_of b
  numbers e = ap number_of e

  forms : {a b : Value} → a ≡ b → is_truth a ≡ is_truth b
  forms e = ap is_truth e

  apart : (rs : List TypedRule) → WritesNoConstant p rs → (a b : SiteTerm) → Constant p ty a → Constant p ty b → Contains (tested_constants p rs) a → Contains (tested_constants p rs) b
      → written_value (total (echoes types p.terms)) a ≡ written_value (total (echoes types p.terms)) b → a ≡ b
  apart rs unwritten _ _ (a_bool b) (a_bool c) ia ib e = ap (λ x. bool_term x ty) (ap truth_of (is e))
  apart rs unwritten _ _ (a_bool b) (an_int z) ia ib e = absurd (true≢false (forms (is e)))
  apart rs unwritten _ _ (a_bool b) (a_prim n q) ia ib e = absurd (true≢false (forms (is e ∙ value_of n q)))
  apart rs unwritten _ _ (an_int z) (a_bool c) ia ib e = absurd (false≢true (forms (is e)))
  apart rs unwritten _ _ (an_int z) (an_int w) ia ib e = ap (λ x. int_term x ty) (numbers (is e))
  apart rs unwritten _ _ (an_int z) (a_prim n q) ia ib e = absurd (unwritten z ty n ia ib (numbers (is e ∙ value_of n q)))
  apart rs unwritten _ _ (a_prim m r) (a_bool c) ia ib e = absurd (true≢false (forms (sym (is e) ∙ value_of m r)))
  apart rs unwritten _ _ (a_prim m r) (an_int w) ia ib e = absurd (unwritten w ty m ib ia (numbers (sym (is e) ∙ value_of m r)))
  apart rs unwritten _ _ (a_prim m r) (a_prim n q) ia ib e = ap prim_term (same_place (constant_number 0) m n (numbers (sym (value_of m r) ∙ is e ∙ value_of n q)))

pub echoes_keep_constants_apart_lem : EchoesKeepConstantsApart
echoes_keep_constants_apart_lem p t types same unwritten plain = record {
  different = λ a b ty v ia ib either wa wb ea eb. apart p types same ty (rules_of p t) unwritten a b (constant_of p ty a wa) (constant_of p ty b wb) ia ib (ea ∙ sym eb);
  without_parts = plain;
}

pub echoes_choose_as_source_lem : EchoesChooseAsSource
echoes_choose_as_source_lem e defs expand rules t sites tree types args elaborated single runs same can unwritten plain typed =
    let p = program_of e defs rules.rules in
    let rs = rules_of p t in
    runs_by_functions_as_chosen_lem e defs expand rules t sites tree (echoes types p.terms) args elaborated single runs
    (echoes_are_well_typed_lem p types (matched_by rs) (called_by rs) same can)
    (echoes_keep_constants_apart_lem p t types same unwritten plain) typed
