-- The lines of files, and the names of files.
use Rattle.std.proofs.Common.{◌≡◌, ℕ, zero, suc, ◌+◌, ◌<◌, ◌≤◌, Bool, true, false, cond, List, [], ◌∷◌, ◌++◌, length, get_or, slice_get, take, drop, map, Option, Some, None, refl, sym, ap, subst, ◌∙◌, arith, nat_eq, nat_le}
use Rattle.std.specs.Prelude.{count_by, ◌==◌, option_map}
use Rattle.std.specs.Global.{Vec}
use Rattle.std.specs.List.{starts_with}
use Rattle.std.specs.List.Sorted.{IsNonDecreasingBy, IsPartitionPoint}
use Rattle.std.specs.Str.{IsCharBoundary}
use Rattle.std.specs.Str.Pattern.{FindsTextPrefix, LacksTextAt, StripsPrefix}
use Rattle.std.proofs.lemmas.Bool.Decides.{nat_tests}
use Rattle.std.proofs.lemmas.List.{at_drop_more, at_drop_all}
use Rattle.std.proofs.lemmas.Option.{slice_get-map}
use Rattle.std.proofs.lemmas.List.Sums.{sum_by-cons}
use Rattle.std.proofs.lemmas.Str.Pattern.{starts_text}
use Rattle.core_syntax.specs.Places.{line_of}
use Rattle.rust_items.specs.declared.options.Prefix.{Prefix}
use Rattle.rust_items.specs.FilePlaces.{Beginning, begin_if, begins_behind, file_written, line_begins, number_lists, on_line}
use Rattle.rust_items.specs.SourceViews.{beginning_view}

one_up_to : (x m : ℕ) → x ≤ m → ◌≡◌ {A = ℕ} (cond (nat_le x m) 1 0) 1
one_up_to x m h = grind (arith, nat_tests)

none_up_to : (x m : ℕ) → m < x → ◌≡◌ {A = ℕ} (cond (nat_le x m) 1 0) 0
none_up_to x m h = grind (arith, nat_tests)

-- how many of some numbers are no greater than m
abbrev many : ℕ → List ℕ → ℕ
many m xs = count_by (λ b. nat_le b m) xs

many_more : (m x : ℕ) (xs : List ℕ) → many m (x ∷ xs) ≡ cond (nat_le x m) 1 0 + many m xs
many_more m x xs = sum_by-cons (λ b. cond (nat_le b m) 1 0) x xs

-- no line that begins behind n bytes or more begins before
begun_late : (is : Bool) (m n : ℕ) (rest : List ℕ) → m ≤ n → many m rest ≡ 0 → many m (begin_if is n ++ rest) ≡ 0
begun_late true m n rest h e = omega (arith, many_more m (n + 1) rest, none_up_to (n + 1) m (omega arith))
begun_late false m n rest h e = e

none_before : (m n : ℕ) (bs : List ℕ) → m ≤ n → many m (begins_behind n bs) ≡ 0
none_before m n [] h = refl
none_before m n (b ∷ bs) h = begun_late (b == 10) m n (begins_behind (n + 1) bs) h (none_before m (n + 1) bs (omega arith))

-- as many lines begin as line feeds stand before
begun_early : (is : Bool) (m n feeds : ℕ) (rest : List ℕ) → n < m → many m rest ≡ feeds → many m (begin_if is n ++ rest) ≡ cond is 1 0 + feeds
begun_early true m n feeds rest h e = omega (arith, many_more m (n + 1) rest, one_up_to (n + 1) m (omega arith))
begun_early false m n feeds rest h e = omega arith

lines_behind : (n k : ℕ) (bs : List ℕ) → many (n + k) (begins_behind n bs) ≡ count_by (λ b. b == 10) (take k bs)
lines_behind n zero [] = refl
lines_behind n (suc k) [] = refl
lines_behind n zero (b ∷ bs) = none_before (n + 0) n (b ∷ bs) (omega arith)
lines_behind n (suc k) (b ∷ bs) =
    let e : n + 1 + k ≡ n + suc k = omega arith in
    let rest : many (n + suc k) (begins_behind (n + 1) bs) ≡ count_by (λ x. x == 10) (take k bs) = subst (λ m. many m (begins_behind (n + 1) bs) ≡ count_by (λ x. x == 10) (take k bs)) e (lines_behind (n + 1) k bs) in
    begun_early (b == 10) (n + suc k) n (count_by (λ x. x == 10) (take k bs)) (begins_behind (n + 1) bs) (omega arith) rest
    ∙ sym (sum_by-cons (λ x. cond (x == 10) 1 0) b (take k bs))

-- the number of an offset's line
pub line_of_begins : (text : List ℕ) (offset : ℕ) → count_by (λ b. nat_le b offset) (line_begins text) ≡ line_of text offset
line_of_begins text offset =
    let e : 0 + offset ≡ offset = omega arith in
    let rest : many offset (begins_behind 0 text) ≡ count_by (λ x. x == 10) (take offset text) = subst (λ m. many m (begins_behind 0 text) ≡ count_by (λ x. x == 10) (take offset text)) e (lines_behind 0 offset text) in
    omega (arith, many_more offset 0 (begins_behind 0 text), one_up_to 0 offset (omega arith), rest)

-- lines begin one after another
above_if : (is : Bool) (n i d : ℕ) (rest : List ℕ) → ((j : ℕ) → j < length rest → n + 1 < get_or rest j d) → i < length (begin_if is n ++ rest) → n < get_or (begin_if is n ++ rest) i d
above_if true n zero d rest above h = omega arith
above_if true n (suc i) d rest above h = omega (arith, above i (omega arith))
above_if false n i d rest above h = omega (arith, above i h)

above : (n i d : ℕ) (bs : List ℕ) → i < length (begins_behind n bs) → n < get_or (begins_behind n bs) i d
above n i d [] h = absurd (omega arith)
above n i d (b ∷ bs) h = above_if (b == 10) n i d (begins_behind (n + 1) bs) (λ j k. above (n + 1) j d bs k) h

rising_if : (is : Bool) (n : ℕ) (rest : List ℕ) → ((j d : ℕ) → j < length rest → n + 1 < get_or rest j d) → IsNonDecreasingBy (λ x. x) rest → IsNonDecreasingBy (λ x. x) (begin_if is n ++ rest)
rising_if true n rest above up zero zero d h k = omega arith
rising_if true n rest above up zero (suc j) d h k = omega (arith, above j d (omega arith))
rising_if true n rest above up (suc i) zero d h k = absurd (omega arith)
rising_if true n rest above up (suc i) (suc j) d h k = up i j d (omega arith) (omega arith)
rising_if false n rest above up i j d h k = up i j d h k

rising : (n : ℕ) (bs : List ℕ) → IsNonDecreasingBy (λ x. x) (begins_behind n bs)
rising n [] i j d h k = absurd (omega arith)
rising n (b ∷ bs) i j d h k = rising_if (b == 10) n (begins_behind (n + 1) bs) (λ j d k. above (n + 1) j d bs k) (rising (n + 1) bs) i j d h k

pub lines_rise : (text : List ℕ) → IsNonDecreasingBy (λ x. x) (line_begins text)
lines_rise text zero zero d h k = omega arith
lines_rise text zero (suc j) d h k = omega arith
lines_rise text (suc i) zero d h k = absurd (omega arith)
lines_rise text (suc i) (suc j) d h k = rising 0 text i j d (omega arith) (omega arith)

-- what is parted at a place has as many that pass
pub parted_count : {X : Type 0} (p : X → Bool) (xs : List X) (i : ℕ) → i ≤ length xs → IsPartitionPoint (λ y. p y ≡ true) (λ y. p y ≡ false) xs i → i ≡ count_by p xs
parted_count p [] i h parted = omega arith
parted_count p (x ∷ xs) zero h parted =
    let here : p x ≡ false = parted.1 0 x (omega arith) (omega arith) in
    let rest : 0 ≡ count_by p xs = parted_count p xs 0 (omega arith) (λ k d low high. absurd (omega arith), λ k d low high. parted.1 (suc k) d (omega arith) (omega arith)) in
    let one : ◌≡◌ {A = ℕ} (cond (p x) 1 0) 0 = ap (λ b. cond b 1 0) here in
    omega (arith, sum_by-cons (λ y. cond (p y) 1 0) x xs)
parted_count p (x ∷ xs) (suc i) h parted =
    let here : p x ≡ true = parted.0 0 x (omega arith) (omega arith) in
    let rest : i ≡ count_by p xs = parted_count p xs i (omega arith) (λ k d low high. parted.0 (suc k) d (omega arith) (omega arith), λ k d low high. parted.1 (suc k) d (omega arith) (omega arith)) in
    let one : ◌≡◌ {A = ℕ} (cond (p x) 1 0) 1 = ap (λ b. cond b 1 0) here in
    omega (arith, sum_by-cons (λ y. cond (p y) 1 0) x xs)

-- the first of several beginnings
pub begins_so : (bs : List Beginning) (b : Beginning) (name rest : List ℕ) → StripsPrefix (FindsTextPrefix b.text) name rest → on_line b.shown ++ on_line rest ≡ file_written (b ∷ bs) name
begins_so bs b name rest h =
    let begins : true ≡ starts_with nat_eq name b.text = starts_text true b.text name (h.0, h.1, subst (IsCharBoundary name) (sym h.1.0) h.1.2) in
    ap (λ r. on_line b.shown ++ on_line r) (h.2 ∙ ap (λ n. drop n name) h.1.0)
    ∙ ap (λ t. cond t (on_line b.shown ++ on_line (drop (length b.text) name)) (file_written bs name)) begins

pub begins_otherwise : (bs : List Beginning) (b : Beginning) (name : List ℕ) → LacksTextAt b.text name 0 → file_written (b ∷ bs) name ≡ file_written bs name
begins_otherwise bs b name h = ap (λ t. cond t (on_line b.shown ++ on_line (drop (length b.text) name)) (file_written bs name)) (sym (starts_text false b.text name h))

-- a list of beginnings, from one on
pub from_one_on : (ps : List Prefix) (i : ℕ) (p : Prefix) (name whole : List ℕ) → i < length ps → p ≡ get_or ps i p → file_written (map beginning_view (drop i ps)) name ≡ whole
    → file_written (beginning_view p ∷ map beginning_view (drop (i + 1) ps)) name ≡ whole
from_one_on ps i p name whole h e w =
    ap (λ q. file_written (beginning_view q ∷ map beginning_view (drop (i + 1) ps)) name) e
    ∙ sym (at_drop_more (λ qs. file_written (map beginning_view qs) name) ps i p h) ∙ w

pub past_all : (ps : List Prefix) (i : ℕ) (name whole : List ℕ) → length ps ≤ i → file_written (map beginning_view (drop i ps)) name ≡ whole → on_line name ≡ whole
past_all ps i name whole h w = sym (at_drop_all (λ qs. file_written (map beginning_view qs) name) ps i h) ∙ w

-- a file's lines
mapped_some : (o : Option (List ℕ)) (xs : List ℕ) → option_map line_begins o ≡ Some xs → (t : List ℕ) × (o ≡ Some t) × (xs ≡ line_begins t)
mapped_some (Some t) xs e = let q : xs ≡ line_begins t = cc in (t, refl, q)
mapped_some None xs e = absurd (cc)

mapped_none : (o : Option (List ℕ)) → option_map line_begins o ≡ None → o ≡ None
mapped_none (Some t) e = absurd (cc)
mapped_none None e = refl

module _ (bs : List (Vec ℕ)) (texts : List (List ℕ)) (file : ℕ) (begun : number_lists bs ≡ map line_begins texts) where
  begun_there : option_map (λ (v : Vec ℕ). v.items) (slice_get bs file) ≡ option_map line_begins (slice_get texts file)
  begun_there = sym (slice_get-map (λ (v : Vec ℕ). v.items) bs file) ∙ ap (λ ls. slice_get ls file) begun ∙ slice_get-map line_begins texts file

  pub begun_at : (v : Vec ℕ) → slice_get bs file ≡ Some v → (t : List ℕ) × (slice_get texts file ≡ Some t) × (v.items ≡ line_begins t)
  begun_at v e = mapped_some (slice_get texts file) v.items (sym begun_there ∙ ap (option_map (λ (w : Vec ℕ). w.items)) e)

  pub not_begun : slice_get bs file ≡ None → slice_get texts file ≡ None
  not_begun e = mapped_none (slice_get texts file) (sym begun_there ∙ ap (option_map (λ (w : Vec ℕ). w.items)) e)
