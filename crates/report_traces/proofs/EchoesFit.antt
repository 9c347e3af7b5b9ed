-- Echoes are well typed where what is called can be echoed.
use Rattle.std.proofs.Common.{◌≡◌, ◌==◌, ℕ, ℤ, pos, Bool, true, false, List, [], ◌∷◌, Option, Some, None, slice_get, refl, sym, ap, ◌∙◌, subst, eqb-true, eq-eqb}
use Rattle.std.specs.List.{list_all}
use Rattle.std.proofs.lemmas.Bool.{and_parts, false≢true}
use Rattle.cranelift_isle.specs.Tables.{Flags, TypeEntry, TermEntry, TermKindEntry, variant_term, struct_term, declared_term}
use Rattle.cranelift_isle.specs.Values.{Value, atom, Values, no_value, value_and, has_atoms, well_typed, all_well_typed}
use Rattle.cranelift_isle.specs.Meaning.{Content, one}
use Rattle.cranelift_isle.specs.Program.{Program, Kind, a_variant, a_struct, a_call, unknown, kind, kind_of, always_answers}
use Rattle.cranelift_isle.specs.Serves.{fits_one, fits_answer, fits_extractor, fits_constructor, term_args, term_results}
use Rattle.laws_trees.specs.TotalLaws.{can_be_matched, can_be_called}
use Rattle.laws_trees.proofs.Shapes.{literals_are_atoms}
use Rattle.report_traces.specs.Echoes.{constant_number, named_value, in_form, for_each_type, outputs_of, extracted_by, extracted_echo, given_by, first_or_zero, pure_echo, impure_echo}
use Rattle.report_traces.specs.EchoLaws.{CanGiveFirst, EchoesAreWellTyped}

-- a number makes an atom of each type with atoms
atom_fits : (types : List TypeEntry) (ty : ℕ) (z : ℤ) → has_atoms (slice_get types ty) ≡ true → well_typed types ty (atom ty z) ≡ true
atom_fits types ty z h = rw (eq-eqb ty ty refl, h) refl

-- an answer in the form of its call
form_fits : (p : Program) (multi optional : Bool) (tys : List ℕ) (c : Content) → fits_one p tys c ≡ true → fits_answer p multi optional tys (in_form multi optional c) ≡ true
form_fits p true optional tys c h = rw h refl
form_fits p false true tys c h = h
form_fits p false false tys c h = h

same_type : (types : List TypeEntry) (ty r : ℕ) (v : Value) → (ty == r) ≡ true → well_typed types r v ≡ true → well_typed types ty v ≡ true
same_type types ty r v e h = subst (λ s. well_typed types s v ≡ true) (sym (eqb-true ty r e)) h

each_fits : (types : List TypeEntry) (tys : List ℕ) (r : ℕ) (v : Value) → list_all (λ ty. ty == r) tys ≡ true → well_typed types r v ≡ true → all_well_typed types (Some tys) (for_each_type tys v) ≡ true
each_fits types [] r v same h = refl
each_fits types (ty ∷ tys) r v same h =
    let two = and_parts (ty == r) (list_all (λ ty. ty == r) tys) same in
    rw (same_type types ty r v two.0 h, each_fits types tys r v two.1 h) refl

outputs_fit : (p : Program) (tys : List ℕ) (r : ℕ) (v : Value) → list_all (λ ty. ty == r) tys ≡ true → well_typed p.types r v ≡ true → fits_one p tys (outputs_of tys v) ≡ true
outputs_fit p [] r v same h = refl
outputs_fit p (ty ∷ []) r v same h = same_type p.types ty r v (and_parts (ty == r) true same).0 h
outputs_fit p (ty ∷ ty' ∷ tys) r v same h = each_fits p.types (ty ∷ ty' ∷ tys) r v same h

first_fits : (p : Program) (ty : ℕ) (tys : List ℕ) (vs : Values) → CanGiveFirst p ty tys → all_well_typed p.types (Some tys) vs ≡ true → well_typed p.types ty (first_or_zero ty vs) ≡ true
first_fits p ty [] no_value can h = atom_fits p.types ty (pos 0) can
first_fits p ty [] (value_and v vs) can h = absurd (false≢true h)
first_fits p ty (first ∷ tys) no_value can h = absurd (false≢true h)
first_fits p ty (first ∷ tys) (value_and v vs) can h =
    subst (λ s. well_typed p.types s v ≡ true) can (and_parts (well_typed p.types first v) (all_well_typed p.types (Some tys) vs) h).0

-- a declared term is a call
record IsCall (k : Kind) : Type 0 where
  flags : Flags
  infallible : Bool
  is : k ≡ a_call flags infallible

call_of : (e : TermEntry) (P : TermKindEntry → Bool) → ((i : ℕ) → P (variant_term i) ≡ false) → P struct_term ≡ false → P e.kind ≡ true → IsCall (kind_of e)
call_of e P none neither h = by e.kind h
  where
    by : (k : TermKindEntry) → P k ≡ true → IsCall (elim k as (λ _. Kind) [
      | variant_term variant ↦ a_variant e.ret_ty variant
      | struct_term ↦ a_struct e.ret_ty
      | declared_term own c x ↦ a_call own (always_answers own x)
    ])
    by (variant_term i) h = absurd (false≢true (sym (none i) ∙ h))
    by struct_term h = absurd (false≢true (sym neither ∙ h))
    by (declared_term own c x) h = record { flags = own; infallible = always_answers own x; is = refl }

-- what an extractor gives fits, by what the term is
extracted_fits_by : (p : Program) (t : ℕ) (tys : List ℕ) (v : Value) (flags : Flags) (infallible : Bool) → term_args (slice_get p.terms t) ≡ tys → fits_one p tys (outputs_of tys v) ≡ true
    → fits_extractor p t (a_call flags infallible) (extracted_by (a_call flags infallible) tys v) ≡ true
extracted_fits_by p t tys v flags true args h =
    subst (λ ts. fits_answer p flags.multi false ts (in_form flags.multi false (outputs_of tys v)) ≡ true) (sym args) (form_fits p flags.multi false tys (outputs_of tys v) h)
extracted_fits_by p t tys v flags false args h =
    subst (λ ts. fits_answer p flags.multi true ts (in_form flags.multi true (outputs_of tys v)) ≡ true) (sym args) (form_fits p flags.multi true tys (outputs_of tys v) h)

given_fits_by : (p : Program) (t ty : ℕ) (v : Value) (flags : Flags) (infallible : Bool) → term_results (slice_get p.terms t) ≡ ty ∷ [] → well_typed p.types ty v ≡ true
    → fits_constructor p t (a_call flags infallible) (given_by (a_call flags infallible) v) ≡ true
given_fits_by p t ty v flags infallible results h =
    subst (λ ts. fits_answer p flags.multi flags.partial ts (in_form flags.multi flags.partial (one v)) ≡ true) (sym results) (form_fits p flags.multi flags.partial (ty ∷ []) (one v) h)

-- the same of a term that is there
known_kind : (p : Program) (t : ℕ) (e : TermEntry) → slice_get p.terms t ≡ Some e → kind p t ≡ kind_of e
known_kind p t e h = ap (λ o. elim o as (λ _. Kind) [ None ↦ unknown | Some e ↦ kind_of e ]) h

extracted_fits : (p : Program) (t : ℕ) (e : TermEntry) (v : Value) → slice_get p.terms t ≡ Some e → can_be_matched e.kind ≡ true → list_all (λ ty. ty == e.ret_ty) e.arg_tys ≡ true → well_typed p.types e.ret_ty v ≡ true
    → fits_extractor p t (kind p t) (extracted_echo (slice_get p.terms t) v) ≡ true
extracted_fits p t e v there can same h =
    let c = call_of e can_be_matched (λ i. refl) refl can in
    let fits = extracted_fits_by p t e.arg_tys v c.flags c.infallible (ap term_args there) (outputs_fit p e.arg_tys e.ret_ty v same h) in
    let of_kind : fits_extractor p t (kind_of e) (extracted_by (kind_of e) e.arg_tys v) ≡ true
    = subst (λ k. fits_extractor p t k (extracted_by k e.arg_tys v) ≡ true) (sym c.is) fits in
    subst (λ k. fits_extractor p t k (extracted_echo (slice_get p.terms t) v) ≡ true) (sym (known_kind p t e there))
    (subst (λ o. fits_extractor p t (kind_of e) (extracted_echo o v) ≡ true) (sym there) of_kind)

given_fits : (p : Program) (t : ℕ) (e : TermEntry) (v : Value) (c : Content) → slice_get p.terms t ≡ Some e → can_be_called e.kind ≡ true → well_typed p.types e.ret_ty v ≡ true → c ≡ given_by (kind_of e) v
    → fits_constructor p t (kind p t) c ≡ true
given_fits p t e v c there can h is =
    let call = call_of e can_be_called (λ i. refl) refl can in
    let fits = given_fits_by p t e.ret_ty v call.flags call.infallible (ap term_results there) h in
    let of_kind : fits_constructor p t (kind_of e) (given_by (kind_of e) v) ≡ true
    = subst (λ k. fits_constructor p t k (given_by k v) ≡ true) (sym call.is) fits in
    subst (λ k. fits_constructor p t k c ≡ true) (sym (known_kind p t e there))
    (subst (λ d. fits_constructor p t (kind_of e) d ≡ true) (sym is) of_kind)

constant_fits : (p : Program) (name ty : ℕ) (o : Option ℕ) → o ≡ Some ty → has_atoms (slice_get p.types ty) ≡ true → well_typed p.types ty (named_value o name) ≡ true
constant_fits p name ty o is h = subst (λ o. well_typed p.types ty (named_value o name) ≡ true) (sym is) (atom_fits p.types ty (constant_number name) h)

pub echoes_are_well_typed_lem : EchoesAreWellTyped
echoes_are_well_typed_lem p types matched called same can = record {
  bools = λ b ty h. h;
  ints = λ z ty h. atom_fits p.types ty z (literals_are_atoms (slice_get p.types ty) h);
  written_bools = λ b ty h. refl;
  written_ints = λ z ty h. refl;
  constants = λ name ty used is. constant_fits p name ty (types name) (same name ∙ is) (can.constants name ty used is);
  extractors = λ t e v among there may h. extracted_fits p t e v there may (can.extractors t e among there may) h;
  pures = λ t e vs among there may pure h.
      given_fits p t e (first_or_zero e.ret_ty vs) (pure_echo (slice_get p.terms t) vs) there may (first_fits p e.ret_ty e.arg_tys vs (can.pures t e among there may pure) h) (ap (λ o. pure_echo o vs) there);
  impures = λ t before e vs among there may impure h.
      given_fits p t e (atom e.ret_ty (pos before)) (impure_echo (slice_get p.terms t) before) there may (atom_fits p.types e.ret_ty (pos before) (can.impures t e among there may impure)) (ap (λ o. impure_echo o before) there);
}
