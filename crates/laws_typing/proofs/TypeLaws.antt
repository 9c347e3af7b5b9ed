-- What holds of the type table of all lists of definitions.
use Rattle.std.proofs.Common.{◌≡◌, ℕ, suc, ◌+◌, ◌==◌, ◌||◌, Bool, true, false, cond, List, [], ◌∷◌, ◌++◌, length, map, reverse, Some, None, option_map, slice_get, find, refl, sym, ap, ◌∙◌, subst, inl, inr, arith}
use Rattle.std.proofs.lemmas.Grind.{common_steps}
use Rattle.std.specs.List.{enumerate_from, flat_map}
use Rattle.std.specs.Option.{option_or}
use Rattle.std.specs.Str.{bytes_eq}
use Rattle.std.proofs.lemmas.Bool.{false≢true, cases_Bool}
use Rattle.std.proofs.lemmas.List.{reverse-append}
use Rattle.std.proofs.lemmas.List.Folds.{find-append}
use Rattle.std.proofs.lemmas.Option.{same_Some, slice_get-map}
use Rattle.model.specs.lists.Syntax.{Definition}
use Rattle.model.specs.lists.Names.{number, has_name, IsDistinct}
use Rattle.model.specs.rules.Meaning.{look}
use Rattle.model.specs.lists.TypeTable.{builtin_names, builtin_from, type_trees, type_names, place_from, ConstantTree, constant_trees, names_inside, type_names_met, type_entry, last_definitions, type_or_first}
use Rattle.laws_typing.specs.TableLaws.{TypesStandAtIds, LastDefinitionCounts}
use Rattle.model.proofs.Names.{distinct_if, same_test, has_met, has_left, has_right, distinct_names}
use Rattle.model.proofs.Bytes.{same_bytes, same_self}

pub builtin_distinct : IsDistinct builtin_names
builtin_distinct = distinct_if builtin_names refl

-- the names inside the types, and those of the constants, as they are met
abbrev pub names_later : List Definition → List (List ℕ)
names_later defs = type_names defs ++ flat_map (λ t. names_inside t.name.text t.value) (type_trees defs) ++ map (λ c. c.name.text) (constant_trees defs)

pub type_names_distinct : (defs : List Definition) → IsDistinct (type_names_met defs)
type_names_distinct defs = distinct_names builtin_names (names_later defs) builtin_distinct

-- past a first list, the second one
get_past : {A : Type 0} (xs ys : List A) (n i : ℕ) → n ≡ length xs + i → slice_get (xs ++ ys) n ≡ slice_get ys i
get_past (x ∷ xs) ys (suc n) i e = get_past xs ys n i (omega arith)
get_past xs ys n i e = grind (arith, common_steps)

get_numbered : {X Y : Type 0} (f : ℕ × X → Y) (xs : List X) (n i m : ℕ) (x : X) → n + i ≡ m → slice_get xs i ≡ Some x → slice_get (map f (enumerate_from n xs)) i ≡ Some (f (m, x))
get_numbered f (y ∷ ys) n (suc i) m x e h = get_numbered f ys (n + 1) i m x (omega arith) h
get_numbered f xs n i m x e h = grind (arith, common_steps, same_Some)

-- where no name stands twice, a name is found where it stands
pub place_at : (xs : List (List ℕ)) (n k m : ℕ) (x : List ℕ) → IsDistinct xs → n + k ≡ m → slice_get xs k ≡ Some x → place_from n x xs ≡ Some m
place_at (y ∷ ys) n (suc k) m x d e h =
    elim (bytes_eq y x) as (λ b. bytes_eq y x ≡ b → cond b (Some n) (place_from (suc n) x ys) ≡ Some m) [
      | true ↦ λ t. (let z = d 0 (suc k) x (ap Some (same_bytes y x t)) h in absurd (omega arith))
      | false ↦ λ _. place_at ys (suc n) k m x (λ i j z p q. (let s = d (suc i) (suc j) z p q in omega arith)) (omega arith) h
    ] refl
place_at xs n k m x d e h = grind (arith, common_steps, same_Some, same_self)

pub types_stand_at_ids_lem : TypesStandAtIds
types_stand_at_ids_lem defs i t h = (
  get_past (builtin_from 0 builtin_names) (map (λ p. type_entry defs (type_names_met defs) p.0 p.1) (enumerate_from 13 (type_trees defs))) (13 + i) i refl
      ∙ get_numbered (λ p. type_entry defs (type_names_met defs) p.0 p.1) (type_trees defs) 13 i (13 + i) t refl h,
  λ v. place_at (builtin_names ++ type_names defs) 0 (13 + i) (13 + i) t.name.text v.distinct (omega arith)
      (get_past builtin_names (type_names defs) (13 + i) i refl ∙ slice_get-map (λ u. u.name.text) (type_trees defs) i ∙ ap (option_map (λ u. u.name.text)) h),
)

-- the names of the types, and those inside them, were met
module _ (defs : List Definition) where
  abbrev constant_names : List (List ℕ)
  constant_names = map (λ c. c.name.text) (constant_trees defs)

  abbrev names_in_types : List (List ℕ)
  names_in_types = flat_map (λ t. names_inside t.name.text t.value) (type_trees defs)

  pub types_met : (x : List ℕ) → has_name (type_names defs) x ≡ true → has_name (type_names_met defs) x ≡ true
  types_met x h = has_met builtin_names (names_later defs) x (has_left (type_names defs ++ names_in_types) constant_names x (has_left (type_names defs) names_in_types x h))

  pub inside_met : (x : List ℕ) → has_name (flat_map (λ t. names_inside t.name.text t.value) (type_trees defs)) x ≡ true → has_name (type_names_met defs) x ≡ true
  inside_met x h = has_met builtin_names (names_later defs) x (has_left (type_names defs ++ names_in_types) constant_names x (has_right (type_names defs) names_in_types x h))

-- constants
abbrev texts : List ConstantTree → List (List ℕ)
texts cs = map (λ c. c.name.text) cs

abbrev is_named : List ℕ → ConstantTree → Bool
is_named x c = bytes_eq c.name.text x

-- a name has a last definition exactly where it has one
none_last : (cs : List ConstantTree) (x : List ℕ) → has_name (texts cs) x ≡ false → find (is_named x) (last_definitions cs) ≡ None
none_last (c ∷ cs) x h = grind (arith, common_steps, none_last cs x)
none_last [] x h = refl

one_last : (cs : List ConstantTree) (x : List ℕ) → has_name (texts cs) x ≡ true → (c : ConstantTree) × (find (is_named x) (last_definitions cs) ≡ Some c)
one_last [] x h = absurd (false≢true h)
one_last (c ∷ cs) x h =
    elim (cases_Bool (has_name (texts cs) x)) [
      | inl there ↦
          let r = one_last cs x there in
          elim (has_name (texts cs) c.name.text) as (λ b. (d : ConstantTree) × (find (is_named x) (cond b (last_definitions cs) (c ∷ last_definitions cs)) ≡ Some d)) [
            | true ↦ r
            | false ↦ elim (bytes_eq c.name.text x) as (λ b. (d : ConstantTree) × (cond b (Some c) (find (is_named x) (last_definitions cs)) ≡ Some d)) [ true ↦ (c, refl) | false ↦ r ]
          ]
      | inr none ↦
          elim (bytes_eq c.name.text x) as (λ b. bytes_eq c.name.text x ≡ b → b || has_name (texts cs) x ≡ true → (d : ConstantTree) × (find (is_named x) (last_definitions (c ∷ cs)) ≡ Some d)) [
            | true ↦ λ same _.
                let first : has_name (texts cs) c.name.text ≡ false = subst (λ z. has_name (texts cs) z ≡ false) (sym (same_bytes c.name.text x same)) none in
                (c, ap (λ b. find (is_named x) (cond b (last_definitions cs) (c ∷ last_definitions cs))) first ∙ ap (λ b. cond b (Some c) (find (is_named x) (last_definitions cs))) same)
            | false ↦ λ _ e. absurd (false≢true (sym none ∙ e))
          ] refl h
    ]

reverse_first : (c : ConstantTree) (cs : List ConstantTree) (t : ConstantTree → Bool) → find t (reverse (c ∷ cs)) ≡ option_or (find t (reverse cs)) (cond (t c) (Some c) None)
reverse_first c cs t = ap (find t) (reverse-append (c ∷ []) cs) ∙ find-append t (reverse cs) (c ∷ [])

-- the last definition of a name
last_is : (cs : List ConstantTree) (x : List ℕ) → find (is_named x) (last_definitions cs) ≡ find (is_named x) (reverse cs)
last_is (c ∷ cs) x = grind (arith, common_steps, last_is cs x, one_last cs x, reverse_first c cs, same_bytes c.name.text x, none_last cs x, one_last, reverse_first, same_bytes, none_last)
last_is [] x = refl

-- the definitions kept are some of the definitions
kept_among : (cs : List ConstantTree) (x : List ℕ) → has_name (texts (last_definitions cs)) x ≡ true → has_name (texts cs) x ≡ true
kept_among (c ∷ cs) x h = grind (arith, common_steps, kept_among cs x)
kept_among [] x h = h

-- looking up a number is looking up its name
look_is : (ns : List (List ℕ)) (ty : ConstantTree → ℕ) (cs : List ConstantTree) (x : List ℕ) → ((y : List ℕ) → has_name (texts cs) y ≡ true → has_name ns y ≡ true) → look (λ k. k == number ns x) (map (λ c. (number ns c.name.text, ty c)) cs) ≡ option_map ty (find (is_named x) cs)
look_is ns ty (c ∷ cs) x h = grind (arith, common_steps, look_is ns ty cs x, same_test ns c.name.text x, same_self c.name.text, has_right (c.name.text ∷ []), same_test, same_self, has_right)
look_is ns ty [] x h = refl

constants_met : (defs : List Definition) (y : List ℕ) → has_name (texts (constant_trees defs)) y ≡ true → has_name (type_names_met defs) y ≡ true
constants_met defs y h = grind (arith, common_steps, has_met builtin_names, has_met, has_right)

pub last_definition_counts_lem : LastDefinitionCounts
last_definition_counts_lem defs x =
    look_is (type_names_met defs) (λ c. type_or_first defs c.ty) (last_definitions (constant_trees defs)) x (λ y h. constants_met defs y (kept_among (constant_trees defs) y h))
    ∙ ap (option_map (λ c. type_or_first defs c.ty)) (last_is (constant_trees defs) x)
