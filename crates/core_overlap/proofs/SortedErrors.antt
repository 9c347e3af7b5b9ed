-- Errors and positions in order.
use Rattle.std.proofs.Common.{◌≡◌, ◌==◌, ◌&&◌, ◌||◌, Bool, true, cond, nat_lt, if◌then◌else◌, List, [], ◌∷◌, Contains, filter, map, refl, sym, ap, ◌∙◌, arith}
use Rattle.std.proofs.lemmas.Bool.{and_parts}
use Rattle.std.specs.Prelude.{IsPermutation}
use Rattle.std.specs.Cmp.{IsStrictWeakOrder}
use Rattle.std.specs.Ordering.{is_lt, ordering_then}
use Rattle.std.specs.declared.cmp.Ordering.{Ordering}
use Rattle.std.specs.declared.cmp.Ordering.TheVariants.{Less, Equal, Greater}
use Rattle.std.specs.List.{AllByRecursion, dedup}
use Rattle.std.specs.List.Sorted.{ties, IsSortedBy, IsSorted, IsStrictlySortedBy}
use Rattle.std.proofs.lemmas.List.Sorted.{ranks_by, Contains-permutation, IsPermutation-sym}
use Rattle.std.proofs.lemmas.List.Kept.{IsStrictlySortedBy-dedup, Contains-dedup, Contains-from_dedup}
use Rattle.std.proofs.lemmas.Grind.{common_steps}
use Rattle.model.specs.lists.Syntax.{Position}
use Rattle.model.specs.sites.Overlap.{RuleReport, report_position, position_lt, with_report, by_position, ascending_positions}
use Rattle.model.specs.claims.Refusals.{Refusal, ill_typed, unreachable, overlapping, shadowing, past_limit, refusal_of}
use Rattle.model.proofs.Elements.{In, in_map, map_in, in_from_contains, contains_from_in}
use Rattle.core_syntax.specs.SyntaxViews.{position}
use Rattle.core_syntax.specs.declared.syntax.Error.{Error}
use Rattle.core_syntax.specs.declared.syntax.Pos.{Pos}
use Rattle.core_syntax.specs.contracts.syntax.PosOrd.TheImpl.{ghosts}
use Rattle.core_syntax.specs.contracts.syntax.PosOrd.TheImpl.Laws.{total-law, matches_eq-law}
use Rattle.core_syntax.specs.contracts.syntax.PosEq.TheImpl.Laws.{laws-law}
use Rattle.core_syntax.specs.contracts.syntax.PosPartialEq.TheImpl as E
use Rattle.core_overlap.specs.Comparisons.{positions}
use Rattle.core_syntax.specs.ErrorViews.{error_view, error_views}
use Rattle.core_overlap.specs.ErrorViews.{error_pos}
use Rattle.core_overlap.proofs.Ascents.{Ascend, AreAbove, ascending_is}
use Rattle.core_overlap.proofs.Orders.{placed, ordered_by, map_in_order, sorted_is}

-- 1. the order of places
by_parts : (x y z w : Bool) → is_lt (ordering_then (cond x Less (cond y Equal Greater)) (cond z Less (cond w Equal Greater))) ≡ (x || (y && z))
by_parts x y z w = grind (arith, common_steps)

pub cmp_lt : (p q : Pos) → is_lt (ghosts.cmp p q) ≡ position_lt (position p) (position q)
cmp_lt p q = by_parts (nat_lt p.file q.file) (p.file == q.file) (nat_lt p.offset q.offset) (p.offset == q.offset)

-- 2. errors by place
abbrev pub refusal_place : Refusal → Position
refusal_place (ill_typed at) = at
refusal_place (unreachable at) = at
refusal_place (overlapping []) = record { file = 0; offset = 0 }
refusal_place (overlapping (r ∷ rs)) = r
refusal_place (shadowing shadowed mask) = mask
refusal_place (past_limit limit at) = at

place_is : (e : Error) → position (error_pos e) ≡ refusal_place (error_view e)
place_is e = grind arith

report_place : (r : RuleReport) → report_position r ≡ refusal_place (refusal_of r)
report_place r = grind (arith, common_steps)

abbrev pub earlier : Refusal → Refusal → Bool
earlier a b = position_lt (refusal_place a) (refusal_place b)

abbrev comes_first : RuleReport → RuleReport → Bool
comes_first a b = position_lt (report_position a) (report_position b)

with_is : (a : RuleReport) (bs : List RuleReport) → with_report a bs ≡ placed comes_first a bs
with_is a [] = refl
with_is a (b ∷ bs) = ap (λ l. if comes_first b a then b ∷ l else a ∷ (b ∷ bs)) (with_is a bs)

by_position_is : (rs : List RuleReport) → by_position rs ≡ ordered_by comes_first rs
by_position_is [] = refl
by_position_is (r ∷ rs) = with_is r (by_position rs) ∙ ap (placed comes_first r) (by_position_is rs)

pub reports_in_order : (rs : List RuleReport) → map refusal_of (by_position rs) ≡ ordered_by earlier (map refusal_of rs)
reports_in_order rs = grind (arith, common_steps, by_position_is rs, ordered_by, report_place, map_in_order refusal_of earlier rs)

abbrev pub before_in_place : Error → Error → Bool
before_in_place x y = is_lt (ghosts.cmp (error_pos x) (error_pos y))

same_order : (a b : Error) → before_in_place a b ≡ earlier (error_view a) (error_view b)
same_order a b = cmp_lt (error_pos a) (error_pos b) ∙ (λ k. position_lt (place_is a k) (place_is b k))

strict : IsStrictWeakOrder before_in_place
strict = ranks_by total-law error_pos

pub errors_in_order : (xs ys : List Error) (reports : List RuleReport) → IsSortedBy before_in_place ys → ((z : Error) → filter (ties before_in_place z) ys ≡ filter (ties before_in_place z) xs)
    → error_views xs ≡ map refusal_of reports → error_views ys ≡ map refusal_of (by_position reports)
errors_in_order xs ys reports s f e =
    ap error_views (sorted_is before_in_place strict xs ys s f)
    ∙ (λ k. error_views (ordered_by (λ a b. same_order a b k) xs))
    ∙ map_in_order error_view earlier xs
    ∙ ap (ordered_by earlier) e
    ∙ sym (reports_in_order reports)

-- 3. positions that ascend
is_less : (o : Ordering) → o ≡ Less → is_lt o ≡ true
is_less o e = ap is_lt e

all_above : (p : Pos) (ps : List Pos) → AllByRecursion (λ q. ghosts.cmp p q ≡ Less) ps → AreAbove (position p) (positions ps)
all_above p [] h b i = absurd i
all_above p (q ∷ ps) h b i = grind (arith, common_steps, all_above p ps h.1 b, cmp_lt p q, is_less (ghosts.cmp p q) h.0)

strictly_ascend : (ps : List Pos) → IsStrictlySortedBy ghosts.cmp ps → Ascend (positions ps)
unfolding IsStrictlySortedBy
strictly_ascend [] h = tt
strictly_ascend (p ∷ ps) h = (all_above p ps h.0, strictly_ascend ps h.1)

moved : (xs ys : List Pos) → ((p : Pos) → Contains xs p → Contains ys p) → (z : Position) → In (positions xs) z → In (positions ys) z
moved xs ys f z i = grind (arith, common_steps, in_map position xs z i, map_in position ys, in_from_contains ys, contains_from_in xs)

-- a list that is sorted, each place once
pub sorted_places : (xs ys zs : List Pos) → IsPermutation xs ys → IsSorted ghosts.cmp ys → zs ≡ dedup E.ghosts.eq ys → positions zs ≡ ascending_positions (positions xs)
sorted_places xs ys zs p s e =
    ap positions e
    ∙ ascending_is (positions xs) (positions (dedup E.ghosts.eq ys))
    (strictly_ascend (dedup E.ghosts.eq ys) (IsStrictlySortedBy-dedup total-law matches_eq-law ys s))
    (moved xs (dedup E.ghosts.eq ys) (λ q c. Contains-dedup laws-law same_places ys q (Contains-permutation xs ys q p c)))
    (moved (dedup E.ghosts.eq ys) xs (λ q c. Contains-permutation ys xs q (IsPermutation-sym xs ys p) (Contains-from_dedup E.ghosts.eq ys q c)))
  where
    same_places : (a b : Pos) → E.ghosts.eq a b ≡ true → a ≡ b
    same_places a b h = grind (arith, common_steps, and_parts (a.file == b.file) (a.offset == b.offset) h)
