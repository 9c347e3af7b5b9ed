-- Functions by their numbers.
use Rattle.std.proofs.Common.{◌≡◌, ℕ, Bool, true, false, List, Option, Some, None, slice_get, refl, sym, ap, ◌∙◌, inl, inr, ◌+◌, arith}
use Rattle.std.specs.Prelude.{codes}
use Rattle.std.proofs.lemmas.Bool.{eqb-true}
use Rattle.model.specs.lists.Tables.{TermEntry}
use Rattle.model_code.specs.Alike.{term_of}
use Rattle.model_code.specs.Notation.{Callee}
use Rattle.model_code.specs.ProgramNotation.{callees, function_number, is_same_callee, is_same_function, list_of, outside_of, outside_of_entry, same_names}
use Rattle.model_code.proofs.Callees.{First, first, listed, same_self, callee_same}
use Rattle.rust_text.specs.ProgramNames.{NameSetting, program_in, function_text, function_written, function_or_none, list_text, list_written, list_or_none, list_at}

-- one function has one text
same_text : (names : List (List ℕ)) (terms : List TermEntry) (m n : Option ℕ) (f g : Callee) → same_names m n (is_same_callee f g) ≡ true → function_text names m (slice_get terms (term_of f)) ≡ function_text names n (slice_get terms (term_of g))
same_text names terms (Some m) (Some n) f g e = ap (λ k. function_text names (Some k) None) (eqb-true m n e)
same_text names terms (Some m) None f g e = absurd (cc)
same_text names terms None (Some n) f g e = absurd (cc)
same_text names terms None None f g e = ap (λ h. function_text names None (slice_get terms (term_of h))) (callee_same f g e)

same_list : (names : List (List ℕ)) (m n : Option ℕ) (t : Bool) → same_names m n t ≡ true → list_text names m ≡ list_text names n
same_list names (Some m) (Some n) t e = ap (λ k. list_text names (Some k)) (eqb-true m n e)
same_list names (Some m) None t e = absurd (cc)
same_list names None (Some n) t e = absurd (cc)
same_list names None None t e = refl

-- one that isn't listed has no term
module _ (s : NameSetting) (f : Callee) (no : (i : ℕ) (g : Callee) → slice_get (callees (program_in s)) i ≡ Some g → is_same_function (program_in s) f g ≡ false) where
  unlisted : (e : TermEntry) → slice_get s.terms (term_of f) ≡ Some e → ⊥
  unlisted e h =
      let z : term_of f ≡ 0 + term_of f = omega arith in
      let w = listed 0 (term_of f) s.terms e f h z in
      let is : is_same_function (program_in s) f f ≡ true = same_self (outside_of (program_in s) f) f in
      let isnt : is_same_function (program_in s) f f ≡ false = no w.0 f w.1 in
      absurd (cc)

  bare : (o : Option TermEntry) → slice_get s.terms (term_of f) ≡ o → codes "constructor_" ≡ function_text s.names (outside_of_entry o f) o
  bare None h = refl
  bare (Some e) h = absurd (unlisted e h)

  not_outside : (o : Option TermEntry) (name : ℕ) → slice_get s.terms (term_of f) ≡ o → outside_of_entry o f ≡ Some name → ⊥
  not_outside None name h e = absurd (cc)
  not_outside (Some x) name h e = unlisted x h

module _ (s : NameSetting) (f : Callee) where
  by_first : First (is_same_function (program_in s) f) (callees (program_in s)) → function_or_none s (slice_get (callees (program_in s)) (function_number (program_in s) f)) ≡ function_written s f
  by_first (inl w) = ap (function_or_none s) w.1 ∙ sym (same_text s.names s.terms (outside_of (program_in s) f) (outside_of (program_in s) w.0) f w.0 w.2)
  by_first (inr w) = ap (function_or_none s) w.0 ∙ bare s f w.1 (slice_get s.terms (term_of f)) refl

  pub function_numbered : function_or_none s (slice_get (callees (program_in s)) (function_number (program_in s) f)) ≡ function_written s f
  function_numbered = by_first (first (is_same_function (program_in s) f) (callees (program_in s)))

  list_by : (o : Option ℕ) → outside_of (program_in s) f ≡ o → First (is_same_function (program_in s) f) (callees (program_in s)) → list_at s (list_of (program_in s) o f) ≡ list_text s.names o
  list_by None e w = refl
  list_by (Some name) e (inl w) = ap (list_or_none s) w.1 ∙ sym (same_list s.names (outside_of (program_in s) f) (outside_of (program_in s) w.0) (is_same_callee f w.0) w.2) ∙ ap (list_text s.names) e
  list_by (Some name) e (inr w) = absurd (not_outside s f w.1 (slice_get s.terms (term_of f)) name refl e)

  pub list_numbered : list_at s (list_of (program_in s) (outside_of (program_in s) f) f) ≡ list_written s f
  list_numbered = list_by (outside_of (program_in s) f) refl (first (is_same_function (program_in s) f) (callees (program_in s)))
