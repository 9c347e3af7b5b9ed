-- Names that are met later change no entry whose own names were met.
use Rattle.std.proofs.Common.{◌≡◌, ℕ, ◌+◌, List, [], ◌∷◌, map, All, IsTrue, refl, sym, ap, ◌∙◌, arith}
use Rattle.std.specs.List.{flat_map, enumerate_from}
use Rattle.std.proofs.lemmas.List.Elements.{All-nil, All-head, All-tail, All-weaker}
use Rattle.std.proofs.lemmas.Grind.{common_steps}
use Rattle.model.specs.lists.Syntax.{FieldTree, FieldTrees, VariantTree, TypeTree, TypeValueTree, primitive_value, enum_value, struct_value, Definition}
use Rattle.model.specs.lists.Names.{number, has_name, with_name, with_names}
use Rattle.model.specs.lists.TypeTable.{full_name, field_names, variant_names, names_inside, type_or_first, field_entry, field_entries, variant_entry, entry_at, type_entry}
use Rattle.core_types.proofs.RightTypes.{all_left, all_right}
use Rattle.model.proofs.Names.{has_new, has_kept, number_kept}

-- each of these texts is among the names
abbrev pub AllMet : List (List ℕ) → List (List ℕ) → Type 0
AllMet names xs = All (λ x. IsTrue (has_name names x)) xs

pub met_more : (ns ys xs : List (List ℕ)) → AllMet ns xs → AllMet (with_names ns ys) xs
met_more ns ys xs h = All-weaker (λ x. IsTrue (has_name ns x)) (λ x. IsTrue (has_name (with_names ns ys) x)) (λ x e. has_kept ns ys x e) xs h

pub met_self : (ns xs : List (List ℕ)) → AllMet (with_names ns xs) xs
met_self ns [] = All-nil _
met_self ns (x ∷ xs) = grind (arith, common_steps, met_self (with_name ns x) xs, has_kept (with_name ns x) xs x (has_new ns x), has_new ns x)

module _ (defs : List Definition) (ns more : List (List ℕ)) where
  abbrev IsMet : List ℕ → Type 0
  IsMet x = IsTrue (has_name ns x)

  abbrev later : List (List ℕ)
  later = with_names ns more

  same_number : (x : List ℕ) → IsMet x → number ns x ≡ number later x
  same_number x h = sym (number_kept ns more x h)

  struct_stays : (id : ℕ) (fs : List FieldTree) → All IsMet (map (λ f. f.name.text) fs) → map (λ p. field_entry defs ns p.0 p.1) (enumerate_from id fs) ≡ map (λ p. field_entry defs later p.0 p.1) (enumerate_from id fs)
  struct_stays id [] h = refl
  struct_stays id (f ∷ fs) h =
      let e = same_number f.name.text (All-head IsMet f.name.text (map (λ g. g.name.text) fs) h) in
      let r = struct_stays (id + 1) fs (All-tail IsMet f.name.text (map (λ g. g.name.text) fs) h) in
      ap (λ n. record { name = n; id = id; ty = type_or_first defs f.ty } ∷ map (λ p. field_entry defs ns p.0 p.1) (enumerate_from (id + 1) fs)) e
      ∙ ap (λ l. field_entry defs later id f ∷ l) r

  pub fields_stay : (fs : FieldTrees) → All IsMet (field_names fs) → field_entries defs ns fs ≡ field_entries defs later fs
  fields_stay fs h = grind (arith, struct_stays)

  pub variant_stays : (ty : List ℕ) (id : ℕ) (v : VariantTree) → All IsMet (variant_names ty v) → variant_entry defs ns ty id v ≡ variant_entry defs later ty id v
  variant_stays ty id v h =
      let full = same_number (full_name ty v.name.text) (All-head IsMet (full_name ty v.name.text) (v.name.text ∷ field_names v.fields) h) in
      let own = All-tail IsMet (full_name ty v.name.text) (v.name.text ∷ field_names v.fields) h in
      let name = same_number v.name.text (All-head IsMet v.name.text (field_names v.fields) own) in
      let fields = fields_stay v.fields (All-tail IsMet v.name.text (field_names v.fields) own) in
      ap (λ n. record { name = n; full_name = number ns (full_name ty v.name.text); id = id; fields = field_entries defs ns v.fields; at = v.at }) name
      ∙ ap (λ n. record { name = number later v.name.text; full_name = n; id = id; fields = field_entries defs ns v.fields; at = v.at }) full
      ∙ ap (λ n. record { name = number later v.name.text; full_name = number later (full_name ty v.name.text); id = id; fields = n; at = v.at }) fields

  pub variants_stay : (ty : List ℕ) (id : ℕ) (vs : List VariantTree) → All IsMet (flat_map (variant_names ty) vs) → map (λ p. variant_entry defs ns ty p.0 p.1) (enumerate_from id vs) ≡ map (λ p. variant_entry defs later ty p.0 p.1) (enumerate_from id vs)
  variants_stay ty id [] h = refl
  variants_stay ty id (v ∷ vs) h =
      let e = variant_stays ty id v (all_left IsMet (variant_names ty v) (flat_map (variant_names ty) vs) h) in
      let r = variants_stay ty (id + 1) vs (all_right IsMet (variant_names ty v) (flat_map (variant_names ty) vs) h) in
      ap (λ x. x ∷ map (λ p. variant_entry defs ns ty p.0 p.1) (enumerate_from (id + 1) vs)) e
      ∙ ap (λ l. variant_entry defs later ty id v ∷ l) r

  entry_stays : (id : ℕ) (t : TypeTree) (value : TypeValueTree) → IsMet t.name.text → All IsMet (names_inside t.name.text value) → entry_at defs ns id t value ≡ entry_at defs later id t value
  entry_stays id t (primitive_value name at) own h = grind (arith, common_steps, same_number name.text (All-head IsMet name.text [] h))
  entry_stays id t (enum_value vs at) own h = grind (arith, common_steps, same_number t.name.text own, variants_stay t.name.text 0 vs h)
  entry_stays id t (struct_value fs at) own h = grind (arith, common_steps, same_number t.name.text own, fields_stay fs h)

  -- what a type becomes by the names that were met, it becomes by more
  pub type_stays : (id : ℕ) (t : TypeTree) → IsMet t.name.text → All IsMet (names_inside t.name.text t.value) → type_entry defs ns id t ≡ type_entry defs later id t
  type_stays id t own h = entry_stays id t t.value own h
