-- Converters that differ by the names of their types differ by the ids.
use Rattle.std.proofs.Common.{◌≡◌, ℕ, suc, ◌≤◌, true, false, cond, List, [], ◌∷◌, map, Some, Contains, refl, sym, ap, ◌∙◌, subst, arith}
use Rattle.std.proofs.lemmas.Grind.{common_steps}
use Rattle.std.specs.Str.{bytes_eq}
use Rattle.std.proofs.lemmas.Option.{same_Some}
use Rattle.model.specs.lists.Syntax.{Name, ConverterTree}
use Rattle.model.specs.lists.Names.{IsDistinct}
use Rattle.model.specs.lists.TypeTable.{place_from, IsKnownType}
use Rattle.model.specs.lists.KnownTypes.{KnownTypes, known_type}
use Rattle.model.specs.lists.TermTable.{converter_trees, known_term}
use Rattle.laws_typing.specs.TableLaws.{ConvertersStandOnce}
use Rattle.model.proofs.Bytes.{same_bytes}
use Rattle.model.proofs.Mapped.{get_mapped, get_map}
use Rattle.model.proofs.Members.{member_from_get}

later : (xs : List (List ℕ)) (n k : ℕ) (x : List ℕ) → place_from n x xs ≡ Some k → n ≤ k
later [] n k x p = absurd (cc)
later (z ∷ zs) n k x p =
    elim (bytes_eq z x) as (λ b. cond b (Some n) (place_from (suc n) x zs) ≡ Some k → n ≤ k) [
      | true ↦ λ p. (let e : n ≡ k = same_Some n k p in omega arith)
      | false ↦ λ p. (let l = later zs (suc n) k x p in omega arith)
    ] p

-- names at one place are one name
one_place : (xs : List (List ℕ)) (n k : ℕ) (x y : List ℕ) → place_from n x xs ≡ Some k → place_from n y xs ≡ Some k → x ≡ y
one_place [] n k x y p q = absurd (cc)
one_place (z ∷ zs) n k x y p q =
    elim (bytes_eq z x) as (λ b. bytes_eq z x ≡ b → cond b (Some n) (place_from (suc n) x zs) ≡ Some k → x ≡ y) [
      | true ↦ λ s p. elim (bytes_eq z y) as (λ b. bytes_eq z y ≡ b → cond b (Some n) (place_from (suc n) y zs) ≡ Some k → x ≡ y) [
        | true ↦ λ t q. sym (same_bytes z x s) ∙ same_bytes z y t
        | false ↦ λ t q. (let a : n ≡ k = same_Some n k p in let l = later zs (suc n) k y q in absurd (omega arith))
      ] refl q
      | false ↦ λ s p. elim (bytes_eq z y) as (λ b. bytes_eq z y ≡ b → cond b (Some n) (place_from (suc n) y zs) ≡ Some k → x ≡ y) [
        | true ↦ λ t q. (let a : n ≡ k = same_Some n k q in let l = later zs (suc n) k x p in absurd (omega arith))
        | false ↦ λ t q. one_place zs (suc n) k x y p q
      ] refl q
    ] refl p

-- known types of one id have one name
one_type : (k : KnownTypes) (a b : Name) → IsKnownType k.type_names a → IsKnownType k.type_names b → known_type k a ≡ known_type k b → a.text ≡ b.text
one_type k a b h j e = grind (arith, one_place)

-- what differs by one reading differs by another one that tells as much apart
distinct_by : {X Y Z : Type 0} (f : X → Y) (g : X → Z) (xs : List X) → ((x y : X) → Contains xs x → Contains xs y → f x ≡ f y → g x ≡ g y) → IsDistinct (map g xs) → IsDistinct (map f xs)
distinct_by f g xs tells d j k y p q =
    let a = get_mapped f xs j y p in
    let b = get_mapped f xs k y q in
    let same = tells a.0 b.0 (member_from_get xs j a.0 a.1) (member_from_get xs k b.0 b.1) (a.2 ∙ sym b.2) in
    d j k (g b.0) (get_map g xs j a.0 a.1 ∙ ap Some same) (get_map g xs k b.0 b.1)

pub converters_stand_once_lem : ConvertersStandOnce
converters_stand_once_lem k defs v =
    subst (IsDistinct {X = ℕ × ℕ}) (firsts (converter_trees defs)) (distinct_by ids texts (converter_trees defs) tells v.one_converter)
  where
    ids : ConverterTree → ℕ × ℕ
    ids c = (known_type k c.inner_ty, known_type k c.outer_ty)

    texts : ConverterTree → List ℕ × List ℕ
    texts c = (c.inner_ty.text, c.outer_ty.text)

    tells : (c d : ConverterTree) → Contains (converter_trees defs) c → Contains (converter_trees defs) d → ids c ≡ ids d → texts c ≡ texts d
    tells c d h j e = grind (arith, common_steps, one_type)

    firsts : (cs : List ConverterTree) → map ids cs ≡ map (λ (e : (ℕ × ℕ) × ℕ). e.0) (map (λ c. (ids c, known_term k defs c.term)) cs)
    firsts [] = refl
    firsts (c ∷ cs) = ap (λ l. ids c ∷ l) (firsts cs)
