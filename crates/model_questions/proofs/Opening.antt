-- A place whose type is known, opened by one layer, has the value that stands there.
use Rattle.std.proofs.Common.{◌≡◌, ◌⊎◌, ◌+◌, ℕ, zero, suc, Bool, true, false, not, ◌&&◌, ◌||◌, List, [], ◌∷◌, Option, Some, None, slice_get, refl, sym, ap, ◌∙◌, subst, inl, inr, arith, eq-eqb}
use Rattle.std.proofs.lemmas.Grind.{common_steps}
use Rattle.std.specs.Bool.{◌==◌}
use Rattle.std.specs.List.{list_any}
use Rattle.std.proofs.lemmas.Bool.{and_parts, false≢true, eqb-true}
use Rattle.model.specs.lists.Tables.{VariantEntry, TypeEntry, builtin_type, primitive_type, enum_type, struct_type}
use Rattle.model.specs.rules.Values.{is_truth_type, has_atoms, variant_types, struct_types, field_types}
use Rattle.model.proofs.Elements.{In, or_split, some_is, none_some}
use Rattle.laws_specs.specs.Words.{Denoted, a_truth, an_integer, a_word, variant_of, struct_of, DenotedList, no_denoted, denoted_and, denoted_list, is_plain}
use Rattle.laws_specs.specs.Specs.{Sort, truths, integers, words, words_among, is_of_sort, Specs, sort_of, is_closed, Unknowns}
use Rattle.laws_specs.specs.Conditions.{is_modelled_as, is_atom_as, is_of_type, are_of_types}
use Rattle.model_questions.specs.Formulas.{Place, variant_field_at, struct_field_at, word_at, Fact, known, as_wide, is_kind, Model, is_so, both_of, none_of}
use Rattle.model_questions.specs.Forms.{Form, a_word_by, struct_by, any_of, Forms, no_form, form_and, Case, Cases, one_case, without_rest, then_cases}
use Rattle.model_questions.specs.Evaluated.{Known, found, fields_at, wide_case, at_each, at_widths, at_sort, variant_at, each_variant, is_no_variant, one_variant, variant_known, at_variants, at_enum, at_type, is_enum_of_variants, has_variants, opened, opened_each}
use Rattle.model_questions.proofs.FactsSo.{none_so, both_from, both_parts, none_from}
use Rattle.model_questions.proofs.Described.{Describes, IsTaken, anything_described, one_described, rest_back, then_described}
use Rattle.model_questions.proofs.Standing.{model_of, number_if, width_in, kind_in, IsCoherent, AreKnown, stands, stand_each, Fits, AllFit}

pub same_is : (n : ℕ) → (n == n) ≡ true
same_is n = eq-eqb n n refl

at_next : (i k : ℕ) → suc i + k ≡ i + suc k
at_next i k = omega arith

at_first : (i : ℕ) → i ≡ i + 0
at_first i = omega arith

pub and_last_false : (a b : Bool) → (a && (b && false)) ≡ true → ⊥
and_last_false a b e = grind (arith, common_steps)

pub listed_width : (w : ℕ) (ws : List ℕ) → list_any (λ v. w == v) ws ≡ true → In ws w
listed_width w [] e = absurd (false≢true e)
listed_width w (v ∷ ws) e = elim (or_split (w == v) (list_any (λ u. w == u) ws) e) [ inl q ↦ inl (sym (eqb-true w v q)) | inr r ↦ inr (listed_width w ws r) ]

not_is : (b : Bool) → not b ≡ true → b ≡ true → ⊥
not_is b e f = grind (arith, common_steps)

-- what a type says of a value, by its entry
abbrev pub IsMadeOf : List TypeEntry → Specs → ℕ → Option TypeEntry → Denoted → Type 0
IsMadeOf types specs ty o (variant_of s i xs) = (s ≡ ty) × (are_of_types types specs (variant_types o i) xs ≡ true)
IsMadeOf types specs ty o (struct_of s xs) = (s ≡ ty) × (are_of_types types specs (struct_types o) xs ≡ true)
IsMadeOf types specs ty o _ = ⊥

abbrev pub is_atom_of : Specs → ℕ → Option TypeEntry → Denoted → Bool
is_atom_of specs ty o x = (is_truth_type o && is_of_sort truths x) || (has_atoms o && is_atom_as o (sort_of specs ty) x)

abbrev pub IsOf : List TypeEntry → Specs → ℕ → Option TypeEntry → Denoted → Type 0
IsOf types specs ty o x = (is_atom_of specs ty o x ≡ true) ⊎ IsMadeOf types specs ty o x

pub type_says : (types : List TypeEntry) (specs : Specs) (ty : ℕ) (x : Denoted) → is_of_type types specs ty x ≡ true → IsOf types specs ty (slice_get types ty) x
type_says types specs ty x e = grind (arith, common_steps, or_split, and_parts, eqb-true)

pub none_of_types : (types : List TypeEntry) (specs : Specs) (xs : DenotedList) → are_of_types types specs None xs ≡ true → ⊥
none_of_types types specs xs e = grind (arith, common_steps)

pub nothing_made : (types : List TypeEntry) (specs : Specs) (ty : ℕ) (o : Option TypeEntry) (x : Denoted) → ((i : ℕ) → variant_types o i ≡ None) → struct_types o ≡ None → IsMadeOf types specs ty o x → ⊥
nothing_made types specs ty o x v t h = grind (arith, common_steps, none_of_types)

plain_has_no_kind : (x : Denoted) → is_plain x ≡ true → kind_in x ≡ 0
plain_has_no_kind x e = grind (arith, common_steps)

variant_there : (types : List TypeEntry) (specs : Specs) (o : Option VariantEntry) (xs : DenotedList) → are_of_types types specs (elim o [ None ↦ None | Some v ↦ Some (field_types v.fields) ]) xs ≡ true
    → (v : VariantEntry) × (o ≡ Some v) × (are_of_types types specs (Some (field_types v.fields)) xs ≡ true)
variant_there types specs o xs e = grind (arith, common_steps, none_of_types)

module _ (types : List TypeEntry) (specs : Specs) (vs : Place → Denoted) (u : Unknowns) where
  abbrev m : Model
  m = model_of vs u

  abbrev pub Describe : Cases Form → Option Denoted → Type 0
  Describe cs o = Describes m Form Denoted (stands vs u) (Fits types specs vs) cs o

  abbrev pub Gives : Option Denoted → Form → Type 0
  Gives o f = (o ≡ Some (stands vs u f)) × Fits types specs vs f

  one_is : (f : Form) (x : Denoted) → stands vs u f ≡ x → Fits types specs vs f → Describe (one_case f) (Some x)
  one_is f x e fits = one_described m Form Denoted (stands vs u) (Fits types specs vs) f x e fits

  at_case : (o : Option Denoted) (a b : Case Form) → a ≡ b → Gives o a.gives → Gives o b.gives
  at_case o a b e h = subst (λ (c : Case Form). Gives o c.gives) e h

  -- 1. sorts
  wide_gives : (at : Place) (w n v : ℕ) → vs at ≡ a_word w n → w ≡ v → Gives (Some (a_word w n)) (a_word_by v (word_at at v))
  wide_gives at w n v e q = grind (arith, number_if, same_is)

  each_width_sound : (at : Place) (w n : ℕ) → vs at ≡ a_word w n → (g : Fact) (ws : List ℕ) → (is_so m g ≡ true → In ws w) → (c : Case Form) → In (at_each g ws at) c → is_so m c.guard ≡ true
      → Gives (Some (a_word w n)) c.gives
  each_width_sound at w n e g [] there c i h = absurd i
  each_width_sound at w n e g (v ∷ []) there c (inl q) h = grind (arith, common_steps, at_case (Some (a_word w n)) (wide_case g at v) c q, wide_gives at w n v e, at_case, wide_gives)
  each_width_sound at w n e g (v ∷ []) there c (inr i) h = absurd i
  each_width_sound at w n e g (v ∷ (v' ∷ ws)) there c (inl q) h = grind (arith, common_steps, at_case, wide_gives, both_parts)
  each_width_sound at w n e g (v ∷ (v' ∷ ws)) there c (inr i) h =
      each_width_sound at w n e (both_of g (none_of (as_wide at v))) (v' ∷ ws)
      (λ s. grind (arith, common_steps, both_parts, not_is, none_so, width_in, same_is)) c i h

  each_width_full : (at : Place) (w n : ℕ) → vs at ≡ a_word w n → (g : Fact) (ws : List ℕ) → is_so m g ≡ true → In ws w → IsTaken m (at_each g ws at)
  each_width_full at w n e g [] s i = absurd i
  each_width_full at w n e g (v ∷ []) s i = (wide_case g at v, inl refl, s)
  each_width_full at w n e g (v ∷ (v' ∷ ws)) s i = by (is_so m (as_wide at v)) refl (λ q j. each_width_full at w n e (both_of g (none_of (as_wide at v))) (v' ∷ ws) q j)
    where
      by : (b : Bool) → is_so m (as_wide at v) ≡ b
          → (is_so m (both_of g (none_of (as_wide at v))) ≡ true → In (v' ∷ ws) w → IsTaken m (at_each (both_of g (none_of (as_wide at v))) (v' ∷ ws) at))
          → IsTaken m (at_each g (v ∷ (v' ∷ ws)) at)
      by true q more = (wide_case (both_of g (as_wide at v)) at v, inl refl, both_from m g (as_wide at v) s q)
      by false q more = grind (arith, common_steps, width_in, same_is, both_from, none_from)

  module _ (k : Known) (told : AreKnown m k) where
    widths_described : (at : Place) (ws : List ℕ) (x : Denoted) → vs at ≡ x → is_of_sort (words_among ws) x ≡ true → (o : Option ℕ) → ((v : ℕ) → o ≡ Some v → m.widths at ≡ v)
        → Describe (at_widths ws at o) (Some x)
    widths_described at ws (a_word w n) e h None q =
        let i = listed_width w ws h in
        record { sound = each_width_sound at w n e (known true) ws (λ s. i); full = λ y r. inl (each_width_full at w n e (known true) ws refl i) }
    widths_described at ws (a_word w n) e h (Some v) q = grind (arith, common_steps, one_is, number_if, same_is, q v refl)
    widths_described at ws x e h o q = grind (arith, common_steps)

    word_described : (at : Place) (v : ℕ) (x : Denoted) → vs at ≡ x → is_of_sort (words v) x ≡ true → Describe (one_case (a_word_by v (word_at at v))) (Some x)
    word_described at v x e h = grind (arith, common_steps, one_is, eqb-true)

    sort_described : (at : Place) (x : Denoted) → vs at ≡ x → (s : Option Sort) → is_modelled_as s x ≡ true → Describe (at_sort k at s) (Some x)
    sort_described at x e None h = grind (arith, anything_described, stands)
    sort_described at x e (Some truths) h = grind (arith, one_is, stands)
    sort_described at x e (Some integers) h = grind (arith, common_steps, one_is, stands, told.integers at)
    sort_described at x e (Some (words v)) h = word_described at v x e h
    sort_described at x e (Some (words_among ws)) h = widths_described at ws x e h (found k.widths at) (told.widths at)

  -- 2. fields
  pub fields_stand : (p : ℕ → Place) (j : ℕ) (tys : List ℕ) (xs : DenotedList) → ((n : ℕ) (y : Denoted) → slice_get (denoted_list xs) n ≡ Some y → vs (p (j + n)) ≡ y)
      → are_of_types types specs (Some tys) xs ≡ true → (stand_each vs u (fields_at p j tys) ≡ xs) × AllFit types specs vs (fields_at p j tys)
  fields_stand p j (ty ∷ tys) (denoted_and x xs) h a =
      let s = and_parts (is_of_type types specs ty x) (are_of_types types specs (Some tys) xs) a in
      let here : vs (p j) ≡ x = ap (λ i. vs (p i)) (at_first j) ∙ h 0 x refl in
      let rest = fields_stand p (suc j) tys xs (λ n y q. ap (λ i. vs (p i)) (at_next j n) ∙ h (suc n) y q) s.1 in
      (ap (λ y. denoted_and y (stand_each vs u (fields_at p (suc j) tys))) here ∙ ap (denoted_and x) rest.0, (subst (λ y. is_of_type types specs ty y ≡ true) (sym here) s.0, rest.1))
  fields_stand p j tys xs h a = grind (arith, common_steps)

  module _ (coherent : IsCoherent vs) where
    variant_gives : (ty : ℕ) (at : Place) (s i j : ℕ) (v : VariantEntry) (xs : DenotedList) → vs at ≡ variant_of s i xs → s ≡ ty → i ≡ j → are_of_types types specs (Some (field_types v.fields)) xs ≡ true
        → Gives (Some (variant_of s i xs)) (variant_at ty at j v)
    variant_gives ty at s i j v xs e q r a =
        let same : variant_of s i xs ≡ variant_of ty j xs = ap (λ t. variant_of t i xs) q ∙ ap (λ n. variant_of ty n xs) r in
        let f = fields_stand (variant_field_at at ty j) 0 (field_types v.fields) xs (λ n y t. ap (λ l. vs (variant_field_at at ty j l)) (let z : 0 + n ≡ n = omega arith in z) ∙ coherent.variants at ty j xs n y (e ∙ same) t) a in
        (ap Some (same ∙ ap (variant_of ty j) (sym f.0)), f.1)

    struct_gives : (ty : ℕ) (at : Place) (s : ℕ) (tys : List ℕ) (xs : DenotedList) → vs at ≡ struct_of s xs → s ≡ ty → are_of_types types specs (Some tys) xs ≡ true
        → Gives (Some (struct_of s xs)) (struct_by ty (fields_at (struct_field_at at ty) 0 tys))
    struct_gives ty at s tys xs e q a =
        let same : struct_of s xs ≡ struct_of ty xs = ap (λ t. struct_of t xs) q in
        let f = fields_stand (struct_field_at at ty) 0 tys xs (λ n y t. ap (λ l. vs (struct_field_at at ty l)) (let z : 0 + n ≡ n = omega arith in z) ∙ coherent.structs at ty xs n y (e ∙ same) t) a in
        (ap Some (same ∙ ap (struct_of ty) (sym f.0)), f.1)

    -- 3. variants
    module _ (ty : ℕ) (at : Place) (s i : ℕ) (xs : DenotedList) (e : vs at ≡ variant_of s i xs) (q : s ≡ ty) where
      abbrev x : Denoted
      x = variant_of s i xs

      is_kind_here : (j : ℕ) → is_so m (is_kind at j) ≡ true → i ≡ j
      is_kind_here j h = let r : suc i ≡ suc j = eqb-true (suc i) (suc j) (ap (λ y. kind_in y == suc j) (sym e) ∙ h) in omega arith

      is_kind_from : (j : ℕ) → i ≡ j → is_so m (is_kind at j) ≡ true
      is_kind_from j r = ap (λ y. kind_in y == suc j) e ∙ ap (λ n. suc n == suc j) r ∙ same_is (suc j)

      -- entries that stand from a number on: where the value's is there, its fields are of its types
      abbrev AreTyped : ℕ → List VariantEntry → Type 0
      AreTyped j ws = (d : ℕ) (v : VariantEntry) → i ≡ j + d → slice_get ws d ≡ Some v → are_of_types types specs (Some (field_types v.fields)) xs ≡ true

      abbrev IsThere : ℕ → List VariantEntry → Type 0
      IsThere j ws = (d : ℕ) × (v : VariantEntry) × (i ≡ j + d) × (slice_get ws d ≡ Some v)

      typed_rest : (j : ℕ) (w : VariantEntry) (ws : List VariantEntry) → AreTyped j (w ∷ ws) → AreTyped (suc j) ws
      typed_rest j w ws h d v r t = h (suc d) v (r ∙ at_next j d) t

      each_sound : (j : ℕ) (ws : List VariantEntry) → AreTyped j ws → (c : Case Form) → In (each_variant ty at j ws) c → is_so m c.guard ≡ true → Gives (Some x) c.gives
      each_sound j [] h c n g = absurd n
      each_sound j (w ∷ ws) h c (inl r) g =
          let here = is_kind_here j (ap (λ (d : Case Form). is_so m d.guard) r ∙ g) in
          at_case (Some x) (record { guard = is_kind at j; gives = variant_at ty at j w }) c r (variant_gives ty at s i j w xs e q here (h 0 w (here ∙ at_first j) refl))
      each_sound j (w ∷ ws) h c (inr n) g = each_sound (suc j) ws (typed_rest j w ws h) c n g

      each_full : (j : ℕ) (ws : List VariantEntry) (d : ℕ) (v : VariantEntry) → i ≡ j + d → slice_get ws d ≡ Some v → IsTaken m (each_variant ty at j ws)
      each_full j [] d v r t = absurd (none_some v t)
      each_full j (w ∷ ws) zero v r t = (record { guard = is_kind at j; gives = variant_at ty at j w }, inl refl, is_kind_from j (r ∙ sym (at_first j)))
      each_full j (w ∷ ws) (suc d) v r t = let n = each_full (suc j) ws d v (r ∙ sym (at_next j d)) t in (n.0, inr n.1, n.2)

      one_sound : (j : ℕ) (g : Fact) (ws : List VariantEntry) → AreTyped j ws → (is_so m g ≡ true → IsThere j ws) → (c : Case Form) → In (one_variant g ty at j ws) c → is_so m c.guard ≡ true → Gives (Some x) c.gives
      one_sound j g [] h there c n k = absurd n
      one_sound j g (w ∷ []) h there c (inl r) k = grind (arith, common_steps, at_first j, variant_gives ty at s i j w xs e q, at_case, at_first, variant_gives, none_some)
      one_sound j g (w ∷ []) h there c (inr n) k = absurd n
      one_sound j g (w ∷ (w' ∷ ws)) h there c (inl r) k =
          let here = is_kind_here j (both_parts m g (is_kind at j) (ap (λ (d : Case Form). is_so m d.guard) r ∙ k)).1 in
          at_case (Some x) (record { guard = both_of g (is_kind at j); gives = variant_at ty at j w }) c r (variant_gives ty at s i j w xs e q here (h 0 w (here ∙ at_first j) refl))
      one_sound j g (w ∷ (w' ∷ ws)) h there c (inr n) k =
          one_sound (suc j) (both_of g (none_of (is_kind at j))) (w' ∷ ws) (typed_rest j w (w' ∷ ws) h)
          (λ z. let p = both_parts m g (none_of (is_kind at j)) z in by p.1 (there p.0)) c n k
        where
          by : is_so m (none_of (is_kind at j)) ≡ true → IsThere j (w ∷ (w' ∷ ws)) → IsThere (suc j) (w' ∷ ws)
          by z (zero, v, p, t) = absurd (not_is (is_so m (is_kind at j)) (sym (none_so m (is_kind at j)) ∙ z) (is_kind_from j (p ∙ sym (at_first j))))
          by z (suc d, v, p, t) = (d, v, p ∙ sym (at_next j d), t)

      one_full : (j : ℕ) (g : Fact) (ws : List VariantEntry) → is_so m g ≡ true → IsThere j ws → IsTaken m (one_variant g ty at j ws)
      one_full j g [] z (d, v, p, t) = absurd (none_some v t)
      one_full j g (w ∷ []) z there = (record { guard = g; gives = variant_at ty at j w }, inl refl, z)
      one_full j g (w ∷ (w' ∷ ws)) z there = by (is_so m (is_kind at j)) refl (λ y t. one_full (suc j) (both_of g (none_of (is_kind at j))) (w' ∷ ws) y t) there
        where
          by : (b : Bool) → is_so m (is_kind at j) ≡ b
              → (is_so m (both_of g (none_of (is_kind at j))) ≡ true → IsThere (suc j) (w' ∷ ws) → IsTaken m (one_variant (both_of g (none_of (is_kind at j))) ty at (suc j) (w' ∷ ws)))
              → IsThere j (w ∷ (w' ∷ ws)) → IsTaken m (one_variant g ty at j (w ∷ (w' ∷ ws)))
          by true y more t = (record { guard = both_of g (is_kind at j); gives = variant_at ty at j w }, inl refl, both_from m g (is_kind at j) z y)
          by false y more (zero, v, p, t) = absurd (false≢true (sym y ∙ is_kind_from j (p ∙ sym (at_first j))))
          by false y more (suc d, v, p, t) = let r = more (both_from m g (none_of (is_kind at j)) z (none_from m (is_kind at j) y)) (d, v, p ∙ sym (at_next j d), t) in (r.0, inr r.1, r.2)

      variants_apart : (is_extern : Bool) (ws : List VariantEntry) (v : VariantEntry) → slice_get ws i ≡ Some v → are_of_types types specs (Some (field_types v.fields)) xs ≡ true
          → (o : Option ℕ) → ((j : ℕ) → o ≡ Some j → m.kinds at ≡ suc j) → Describe (without_rest (at_variants is_extern ty at ws o)) (Some x)
      variants_apart is_extern ws v t a None k = by is_extern
        where
          there : (d : ℕ) → i ≡ 0 + d → i ≡ d
          there d p = omega arith

          typed : AreTyped 0 ws
          typed d w p z = subst (λ y. are_of_types types specs (Some (field_types y.fields)) xs ≡ true) (some_is v w (sym t ∙ ap (slice_get ws) (there d p) ∙ z)) a

          start : i ≡ 0 + i
          start = omega arith

          by : (b : Bool) → Describe (without_rest (at_variants b ty at ws None)) (Some x)
          by true = record { sound = each_sound 0 ws typed; full = λ y r. inl (each_full 0 ws i v start t) }
          by false = record { sound = one_sound 0 (known true) ws typed (λ z. (i, v, start, t)); full = λ y r. inl (one_full 0 (known true) ws refl (i, v, start, t)) }
      variants_apart is_extern ws v t a (Some j) k =
          let here : suc i ≡ suc j = ap kind_in (sym e) ∙ k j refl in
          let same : i ≡ j = omega arith in
          subst (λ o. Describe (without_rest (variant_known ty at j o)) (Some x)) (sym t ∙ ap (slice_get ws) same)
          (let r = variant_gives ty at s i j v xs e q same a in one_is (variant_at ty at j v) x (sym (some_is x (stands vs u (variant_at ty at j v)) r.0)) r.1)

      variants_described : (is_extern : Bool) (ws : List VariantEntry) (v : VariantEntry) → slice_get ws i ≡ Some v → are_of_types types specs (Some (field_types v.fields)) xs ≡ true
          → (o : Option ℕ) → ((j : ℕ) → o ≡ Some j → m.kinds at ≡ suc j) → Describe (at_variants is_extern ty at ws o) (Some x)
      variants_described is_extern ws v t a o k = rest_back m Form Denoted (stands vs u) (Fits types specs vs) (at_variants is_extern ty at ws o) (Some x) (variants_apart is_extern ws v t a o k)

    -- of an extern enum something else may stand there
    no_kind_so : (at : Place) → kind_in (vs at) ≡ 0 → (j : ℕ) (ws : List VariantEntry) → is_so m (is_no_variant at j ws) ≡ true
    no_kind_so at e j [] = refl
    no_kind_so at e j (w ∷ ws) = grind (arith, no_kind_so at e (suc j) ws, both_from, none_from, eqb-true)

    no_kind_taken : (ty : ℕ) (at : Place) (o : Option Denoted) → kind_in (vs at) ≡ 0 → (j : ℕ) (ws : List VariantEntry) (c : Case Form) → In (each_variant ty at j ws) c → is_so m c.guard ≡ true → Gives o c.gives
    no_kind_taken ty at o e j [] c i g = absurd i
    no_kind_taken ty at o e j (w ∷ ws) c (inl r) g = grind (arith, eqb-true)
    no_kind_taken ty at o e j (w ∷ ws) c (inr i) g = no_kind_taken ty at o e (suc j) ws c i g

    others_described : (ty : ℕ) (at : Place) (x : Denoted) → vs at ≡ x → is_plain x ≡ true → (ws : List VariantEntry) (o : Option ℕ) → ((j : ℕ) → o ≡ Some j → m.kinds at ≡ suc j) → Describe (at_variants true ty at ws o) (Some x)
    others_described ty at x e plain ws None k =
        let none : kind_in (vs at) ≡ 0 = ap kind_in e ∙ plain_has_no_kind x plain in
        record { sound = no_kind_taken ty at (Some x) none 0 ws; full = λ y r. inr (no_kind_so at none 0 ws) }
    others_described ty at x e plain ws (Some j) k = let none : kind_in (vs at) ≡ 0 = ap kind_in e ∙ plain_has_no_kind x plain in absurd (apart (sym none ∙ k j refl))
      where
        apart : 0 ≡ suc j → ⊥
        apart z = omega arith

    -- and of that no variant stands for anything
    others_apart : (ty : ℕ) (at : Place) (x : Denoted) → vs at ≡ x → is_plain x ≡ true → (ws : List VariantEntry) (o : Option ℕ) → ((j : ℕ) → o ≡ Some j → m.kinds at ≡ suc j)
        → Describe (without_rest (at_variants true ty at ws o)) None
    others_apart ty at x e plain ws None k = let none : kind_in (vs at) ≡ 0 = ap kind_in e ∙ plain_has_no_kind x plain in record { sound = no_kind_taken ty at None none 0 ws; full = λ y r. absurd (none_some y r) }
    others_apart ty at x e plain ws (Some j) k = let none : kind_in (vs at) ≡ 0 = ap kind_in e ∙ plain_has_no_kind x plain in absurd (apart (sym none ∙ k j refl))
      where
        apart : 0 ≡ suc j → ⊥
        apart z = omega arith

    open_sort : (s : Option Sort) (x : Denoted) → is_modelled_as s x ≡ true → is_closed s ≡ false
    open_sort s x h = grind (arith, common_steps)

    -- 4. a type
    module _ (k : Known) (told : AreKnown m k) where
      enum_described : (ty : ℕ) (at : Place) (name id : ℕ) (is_extern is_nodebug : Bool) (ws : List VariantEntry) (place : _) (x : Denoted) → vs at ≡ x
          → IsOf types specs ty (Some (enum_type name id is_extern is_nodebug ws place)) x → Describe (at_enum specs k is_extern ty at ws) (Some x)
      enum_described ty at name id is_extern is_nodebug [] place x e (inl h) = grind (arith, common_steps, sort_described, and_parts)
      enum_described ty at name id is_extern is_nodebug [] place x e (inr h) = grind (arith, common_steps, nothing_made)
      enum_described ty at name id true is_nodebug (w ∷ ws) place x e (inl h) =
          let parts = and_parts (is_modelled_as (sort_of specs ty) x) (is_plain x) h in
          subst (λ b. Describe (at_variants (not b) ty at (w ∷ ws) (found k.kinds at)) (Some x)) (sym (open_sort (sort_of specs ty) x parts.0)) (others_described ty at x e parts.1 (w ∷ ws) (found k.kinds at) (told.kinds at))
      enum_described ty at name id false is_nodebug (w ∷ ws) place x e (inl h) = absurd (false≢true h)
      enum_described ty at name id is_extern is_nodebug (w ∷ ws) place (variant_of s i xs) e (inr h) =
          let v = variant_there types specs (slice_get (w ∷ ws) i) xs h.1 in
          variants_described ty at s i xs e h.0 (is_extern && not (is_closed (sort_of specs ty))) (w ∷ ws) v.0 v.1 v.2 (found k.kinds at) (told.kinds at)
      enum_described ty at name id is_extern is_nodebug (w ∷ ws) place (struct_of s xs) e (inr h) = absurd (none_of_types types specs xs h.1)
      enum_described ty at name id is_extern is_nodebug (w ∷ ws) place (a_truth b) e (inr h) = absurd h
      enum_described ty at name id is_extern is_nodebug (w ∷ ws) place (an_integer z) e (inr h) = absurd h
      enum_described ty at name id is_extern is_nodebug (w ∷ ws) place (a_word v n) e (inr h) = absurd h

      -- where no arm takes an atom, nothing is said of it
      abbrev pub IsApart : Cases Form → Denoted → Type 0
      IsApart cs x = (o : Option Denoted) × Describe (without_rest cs) o × ((o ≡ Some x) ⊎ ((o ≡ None) × (is_plain x ≡ true)))

      enum_apart : (ty : ℕ) (at : Place) (name id : ℕ) (is_extern is_nodebug : Bool) (w : VariantEntry) (ws : List VariantEntry) (place : _) (x : Denoted) → vs at ≡ x
          → IsOf types specs ty (Some (enum_type name id is_extern is_nodebug (w ∷ ws) place)) x → IsApart (at_enum specs k is_extern ty at (w ∷ ws)) x
      enum_apart ty at name id true is_nodebug w ws place x e (inl h) =
          let parts = and_parts (is_modelled_as (sort_of specs ty) x) (is_plain x) h in (
            None,
            subst (λ b. Describe (without_rest (at_variants (not b) ty at (w ∷ ws) (found k.kinds at))) None) (sym (open_sort (sort_of specs ty) x parts.0))
                (others_apart ty at x e parts.1 (w ∷ ws) (found k.kinds at) (told.kinds at)),
            inr (refl, parts.1),
          )
      enum_apart ty at name id false is_nodebug w ws place x e (inl h) = absurd (false≢true h)
      enum_apart ty at name id is_extern is_nodebug w ws place (variant_of s i xs) e (inr h) =
          let v = variant_there types specs (slice_get (w ∷ ws) i) xs h.1 in
          (Some (variant_of s i xs), variants_apart ty at s i xs e h.0 (is_extern && not (is_closed (sort_of specs ty))) (w ∷ ws) v.0 v.1 v.2 (found k.kinds at) (told.kinds at), inl refl)
      enum_apart ty at name id is_extern is_nodebug w ws place (struct_of s xs) e (inr h) = absurd (none_of_types types specs xs h.1)
      enum_apart ty at name id is_extern is_nodebug w ws place (a_truth b) e (inr h) = absurd h
      enum_apart ty at name id is_extern is_nodebug w ws place (an_integer z) e (inr h) = absurd h
      enum_apart ty at name id is_extern is_nodebug w ws place (a_word v n) e (inr h) = absurd h

      type_apart : (ty : ℕ) (at : Place) (x : Denoted) → vs at ≡ x → (o : Option TypeEntry) → is_enum_of_variants o ≡ true → IsOf types specs ty o x → IsApart (at_type specs k ty at o) x
      type_apart ty at x e (Some (enum_type name id is_extern is_nodebug (w ∷ ws) place)) n h = enum_apart ty at name id is_extern is_nodebug w ws place x e h
      type_apart ty at x e o n h = grind (arith, common_steps)

      pub opened_apart : (f : Form) → Fits types specs vs f → has_variants types f ≡ true → IsApart (opened types specs k f) (stands vs u f)
      opened_apart (any_of ty at) fits n = type_apart ty at (vs at) refl (slice_get types ty) n (type_says types specs ty (vs at) fits)
      opened_apart f fits n = grind (arith, common_steps)

      type_described : (ty : ℕ) (at : Place) (x : Denoted) → vs at ≡ x → (o : Option TypeEntry) → IsOf types specs ty o x → Describe (at_type specs k ty at o) (Some x)
      type_described ty at x e None h = grind (arith, anything_described, stands)
      type_described ty at x e (Some (builtin_type zero)) (inl h) = grind (arith, common_steps, one_is, stands)
      type_described ty at x e (Some (builtin_type zero)) (inr h) = absurd (nothing_made types specs ty (Some (builtin_type zero)) x (λ i. refl) refl h)
      type_described ty at x e (Some (builtin_type (suc n))) (inl h) = sort_described k told at x e (sort_of specs ty) (and_parts (is_modelled_as (sort_of specs ty) x) true h).0
      type_described ty at x e (Some (builtin_type (suc n))) (inr h) = absurd (nothing_made types specs ty (Some (builtin_type (suc n))) x (λ i. refl) refl h)
      type_described ty at x e (Some (primitive_type id name place)) (inl h) = sort_described k told at x e (sort_of specs ty) (and_parts (is_modelled_as (sort_of specs ty) x) true h).0
      type_described ty at x e (Some (primitive_type id name place)) (inr h) = absurd (nothing_made types specs ty (Some (primitive_type id name place)) x (λ i. refl) refl h)
      type_described ty at x e (Some (enum_type name id is_extern is_nodebug ws place)) h = enum_described ty at name id is_extern is_nodebug ws place x e h
      type_described ty at x e (Some (struct_type name id is_extern is_nodebug fields place)) (inl h) = absurd (false≢true h)
      type_described ty at (struct_of s xs) e (Some (struct_type name id is_extern is_nodebug fields place)) (inr h) =
          let r = struct_gives ty at s (field_types fields) xs e h.0 h.1 in
          one_is (struct_by ty (fields_at (struct_field_at at ty) 0 (field_types fields))) (struct_of s xs)
          (sym (some_is (struct_of s xs) (stands vs u (struct_by ty (fields_at (struct_field_at at ty) 0 (field_types fields)))) r.0)) r.1
      type_described ty at (variant_of s i xs) e (Some (struct_type name id is_extern is_nodebug fields place)) (inr h) = absurd (none_of_types types specs xs h.1)
      type_described ty at (a_truth b) e (Some (struct_type name id is_extern is_nodebug fields place)) (inr h) = absurd h
      type_described ty at (an_integer z) e (Some (struct_type name id is_extern is_nodebug fields place)) (inr h) = absurd h
      type_described ty at (a_word w n) e (Some (struct_type name id is_extern is_nodebug fields place)) (inr h) = absurd h

      -- a form, and each of several
      pub opened_described : (f : Form) → Fits types specs vs f → Describe (opened types specs k f) (Some (stands vs u f))
      opened_described f fits = grind (arith, common_steps, type_described, type_says, one_is, stands, anything_described)

      abbrev pub DescribeEach : Cases Forms → Option DenotedList → Type 0
      DescribeEach cs o = Describes m Forms DenotedList (stand_each vs u) (AllFit types specs vs) cs o

      pub opened_each_described : (fs : Forms) → AllFit types specs vs fs → DescribeEach (opened_each types specs k fs) (Some (stand_each vs u fs))
      opened_each_described no_form fits = one_described m Forms DenotedList (stand_each vs u) (AllFit types specs vs) no_form no_denoted refl tt
      opened_each_described (form_and f rest) fits =
          then_described m Form Denoted Forms DenotedList (stands vs u) (Fits types specs vs) (stand_each vs u) (AllFit types specs vs)
          (λ x. Some (denoted_and x (stand_each vs u rest))) (λ g. then_cases (opened_each types specs k rest) (λ gs. one_case (form_and g gs)))
          (λ g fg. then_described m Forms DenotedList Forms DenotedList (stand_each vs u) (AllFit types specs vs) (stand_each vs u) (AllFit types specs vs)
          (λ xs. Some (denoted_and (stands vs u g) xs)) (λ gs. one_case (form_and g gs))
          (λ gs fgs. one_described m Forms DenotedList (stand_each vs u) (AllFit types specs vs) (form_and g gs) (denoted_and (stands vs u g) (stand_each vs u gs)) refl (fg, fgs))
          (opened_each types specs k rest) (Some (stand_each vs u rest)) (opened_each_described rest fits.1))
          (opened types specs k f) (Some (stands vs u f)) (opened_described f fits.0)
