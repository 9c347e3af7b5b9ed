-- The sites of fields, one after another, and the site for a call's answers.
use Rattle.std.proofs.Common.{◌≡◌, ℕ, zero, suc, ◌+◌, Bool, true, false, List, [], ◌∷◌, ◌++◌, map, Option, Some, None, slice_get, refl, sym, ap, ◌∙◌, inl, inr, arith, eq-eqb}
use Rattle.std.specs.List.{list_any}
use Rattle.std.proofs.lemmas.Bool.{cases_Bool, cond-true, cond-false, false≢true}
use Rattle.std.proofs.lemmas.Option.{none-some, same_Some}
use Rattle.std.proofs.lemmas.Grind.{common_steps}
use Rattle.model.specs.sites.Sites.{Site, iterator_site, Constraint, is_variant, is_struct}
use Rattle.model.specs.trees.Places.{site_from, each_field, fields_of, is_variant_field, is_struct_field}
use Rattle.model.specs.trees.Tests.{up_to}
use Rattle.model.proofs.Members.{member_from_get, passes_any}
use Rattle.core_serialize.specs.FieldTests.{is_field, field_count, is_iterator_of, HasIterator, IsIteratorOf}
use Rattle.core_serialize.proofs.Tables.{table_more}

each_last : (p : ℕ → Site → Bool) (sites : List Site) (i n : ℕ) → each_field p sites i (suc n) ≡ each_field p sites i n ++ site_from 0 (p (i + n)) sites ∷ []
each_last p sites i zero = let e : i ≡ i + 0 = omega arith in ap (λ k. site_from 0 (p k) sites ∷ []) e
each_last p sites i (suc n) = grind (arith, common_steps, each_last p sites (suc i) n)

fields_up_to : (p : ℕ → Site → Bool) (sites : List Site) (n : ℕ) → map (λ i. site_from 0 (p i) sites) (up_to n) ≡ each_field p sites 0 n
fields_up_to p sites zero = refl
fields_up_to p sites (suc n) =
    let e : n ≡ 0 + n = omega arith in
    sym (table_more (λ i. site_from 0 (p i) sites) n (site_from 0 (p n) sites) refl)
    ∙ ap (λ l. l ++ site_from 0 (p n) sites ∷ []) (fields_up_to p sites n)
    ∙ ap (λ k. each_field p sites 0 n ++ site_from 0 (p k) sites ∷ []) e
    ∙ sym (each_last p sites 0 n)

fields_are : (sites : List Site) (s : ℕ) (c : Constraint) → map (λ i. site_from 0 (is_field s c i) sites) (up_to (field_count c)) ≡ fields_of sites s c
fields_are sites s (is_variant ty variant n) = fields_up_to (is_variant_field s variant) sites n
fields_are sites s (is_struct ty n) = fields_up_to (is_struct_field s) sites n
fields_are sites s _ = refl

pub fields_done : (sites : List Site) (s : ℕ) (c : Constraint) (n : ℕ) (fields : List (Option ℕ)) → n ≡ field_count c → fields ≡ map (λ i. site_from 0 (is_field s c i) sites) (up_to n) → fields ≡ fields_of sites s c
fields_done sites s c n fields e f = f ∙ ap (λ k. map (λ i. site_from 0 (is_field s c i) sites) (up_to k)) e ∙ fields_are sites s c

-- the first site that passes a test
site_found : (p : Site → Bool) (n : ℕ) (sites : List Site) (x : ℕ) → site_from n p sites ≡ Some x → (k : ℕ) × (b : Site) × (x ≡ n + k) × (slice_get sites k ≡ Some b) × (p b ≡ true)
site_found p n [] x e = absurd (none-some x e)
site_found p n (b ∷ rest) x e =
    elim (cases_Bool (p b)) [
      | inl t ↦ let same = same_Some n x (sym (cond-true (p b) (Some n) (site_from (suc n) p rest) t) ∙ e) in (0, b, omega (arith, same), refl, t)
      | inr f ↦
          let r = site_found p (suc n) rest x (sym (cond-false (p b) (Some n) (site_from (suc n) p rest) f) ∙ e) in
          let same = r.2 in
          (suc r.0, r.1, omega (arith, same), r.3, r.4)
    ]

none_passes : (p : Site → Bool) (n : ℕ) (sites : List Site) → site_from n p sites ≡ None → list_any p sites ≡ false
none_passes p n [] e = refl
none_passes p n (a ∷ rest) e = grind (arith, common_steps, none_passes p (suc n) rest, none-some n)

picks_call : (call : ℕ) (b : Site) → is_iterator_of call b ≡ true → b ≡ iterator_site call
picks_call call b h = grind (arith, common_steps)

pub pick_found : (sites : List Site) (call x : ℕ) → site_from 0 (is_iterator_of call) sites ≡ Some x → IsIteratorOf sites call x
pick_found sites call x e = grind (arith, common_steps, site_found (is_iterator_of call) 0 sites x e, picks_call call)

pub pick_not_missed : (sites : List Site) (call : ℕ) → HasIterator sites call → site_from 0 (is_iterator_of call) sites ≡ None → ⊥
pick_not_missed sites call h e = false≢true (sym (none_passes (is_iterator_of call) 0 sites e) ∙ h)

pub pick_there : (sites : List Site) (call k : ℕ) → IsIteratorOf sites call k → HasIterator sites call
pick_there sites call k e = passes_any (is_iterator_of call) sites (iterator_site call) (member_from_get sites k (iterator_site call) e) (eq-eqb call call refl)
