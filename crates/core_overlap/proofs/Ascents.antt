-- Positions that ascend, each once: a list of them is known by what it has.
use Rattle.std.proofs.Common.{◌≡◌, ◌==◌, ◌&&◌, ◌||◌, ℕ, true, false, nat_lt, List, [], ◌∷◌, refl, sym, ◌∙◌, inl, arith}
use Rattle.std.proofs.lemmas.Bool.{false≢true}
use Rattle.std.proofs.lemmas.Bool.Decides.{nat_tests}
use Rattle.std.proofs.lemmas.Grind.{common_steps}
use Rattle.model.specs.lists.Syntax.{Position}
use Rattle.model.specs.sites.Overlap.{position_lt, with_position, ascending_positions}
use Rattle.model.proofs.Elements.{In}
use Rattle.laws_sites.proofs.overlaps.ListedOverlaps.{position_same, with_in, in_ascending, ascending_in}

-- 1. an order of positions
chain : (a b c d e f : ℕ) → (nat_lt a c || ((a == c) && nat_lt b d)) ≡ true → (nat_lt c e || ((c == e) && nat_lt d f)) ≡ true → (nat_lt a e || ((a == e) && nat_lt b f)) ≡ true
chain a b c d e f h k = grind (arith, nat_tests)

pub lt_chain : (a b c : Position) → position_lt a b ≡ true → position_lt b c ≡ true → position_lt a c ≡ true
lt_chain a b c h k = chain a.file a.offset b.file b.offset c.file c.offset h k

one_way : (a b c d : ℕ) → (nat_lt a c || ((a == c) && nat_lt b d)) ≡ true → (nat_lt c a || ((c == a) && nat_lt d b)) ≡ false
one_way a b c d h = grind (arith, nat_tests)

pub lt_one_way : (a b : Position) → position_lt a b ≡ true → position_lt b a ≡ false
lt_one_way a b h = one_way a.file a.offset b.file b.offset h

first_same : (a b c d : ℕ) → (nat_lt a c || ((a == c) && nat_lt b d)) ≡ false → (nat_lt c a || ((c == a) && nat_lt d b)) ≡ false → a ≡ c
first_same a b c d h k = grind (arith, nat_tests)

second_same : (a b c d : ℕ) → (nat_lt a c || ((a == c) && nat_lt b d)) ≡ false → (nat_lt c a || ((c == a) && nat_lt d b)) ≡ false → b ≡ d
second_same a b c d h k = grind (arith, nat_tests)

-- of two positions one is before the other, or they are one
pub lt_total : (a b : Position) → position_lt a b ≡ false → position_lt b a ≡ false → a ≡ b
lt_total a b h k = grind (arith, common_steps, first_same a.file a.offset b.file b.offset h k, second_same a.file a.offset b.file b.offset h k)

-- 2. lists that ascend
abbrev pub AreAbove : Position → List Position → Type 0
AreAbove a bs = (b : Position) → In bs b → position_lt a b ≡ true

abbrev pub Ascend : List Position → Type 0
Ascend [] = Unit {0}
Ascend (a ∷ as') = AreAbove a as' × Ascend as'

with_ascends : (a : Position) (bs : List Position) → Ascend bs → Ascend (with_position a bs)
with_ascends a [] u = (λ b i. absurd i, tt)
with_ascends a (b ∷ bs) u = grind (arith, common_steps, with_ascends a bs u.1, lt_chain a b, with_in a bs, position_same a b, lt_total a b)

pub ascending_ascends : (xs : List Position) → Ascend (ascending_positions xs)
ascending_ascends [] = tt
ascending_ascends (x ∷ xs) = with_ascends x (ascending_positions xs) (ascending_ascends xs)

not_below_itself : (a : Position) → position_lt a a ≡ true → ⊥
not_below_itself a h = false≢true (sym (lt_one_way a a h) ∙ h)

-- two that have the same are one
pub one_ascent : (xs ys : List Position) → Ascend xs → Ascend ys → ((z : Position) → In xs z → In ys z) → ((z : Position) → In ys z → In xs z) → xs ≡ ys
one_ascent [] [] u v f g = refl
one_ascent [] (y ∷ ys) u v f g = absurd (g y (inl refl))
one_ascent (x ∷ xs) [] u v f g = absurd (f x (inl refl))
one_ascent (x ∷ xs) (y ∷ ys) u v f g = grind (arith, common_steps, one_ascent xs ys u.1 v.1, lt_one_way x y, not_below_itself x, not_below_itself y)

-- so a list that ascends is that of what it has
pub ascending_is : (xs ys : List Position) → Ascend ys → ((z : Position) → In xs z → In ys z) → ((z : Position) → In ys z → In xs z) → ys ≡ ascending_positions xs
ascending_is xs ys u f g =
    one_ascent ys (ascending_positions xs) u (ascending_ascends xs) (λ z i. in_ascending xs z (g z i)) (λ z i. f z (ascending_in xs z i))
