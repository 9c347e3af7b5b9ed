-- The calls that rules go over, listed by rules, and their counts.
use Rattle.std.proofs.Common.{◌≡◌, ℕ, zero, suc, ◌+◌, ◌<◌, ◌≤◌, ◌==◌, Bool, false, ◌||◌, List, [], ◌∷◌, ◌++◌, map, not, take, get_or, length, Contains, refl, sym, ap, ◌∙◌, subst, arith}
use Rattle.std.specs.Global.{Vec}
use Rattle.std.specs.List.{filter, list_any}
use Rattle.std.proofs.lemmas.List.{length-append, length-take-le, map-append, take_more}
use Rattle.std.proofs.lemmas.List.Elements.{filter-append}
use Rattle.std.proofs.lemmas.List.Filters.{length-filter_both}
use Rattle.std.proofs.lemmas.List.Folds.{list_any-append}
use Rattle.std.proofs.lemmas.Grind.{common_steps}
use Rattle.model.specs.sites.Sites.{SetRule, Site}
use Rattle.model.specs.trees.Places.{is_in}
use Rattle.model.specs.trees.Sound.{as_number}
use Rattle.model.specs.trees.Tests.{loop_test, needs_at}
use Rattle.model.proofs.Members.{in_head, in_tail, in_filter, from_filter, member_found, member_is_in}
use Rattle.laws_sites.proofs.overlaps.Overlaps.{bool_same}
use Rattle.core_rule_sets.specs.declared.trie_again.Binding.{Binding}
use Rattle.core_rule_sets.specs.declared.trie_again.Rule.{Rule}
use Rattle.core_rule_sets.specs.Listings.{class_lists}
use Rattle.core_rule_sets.specs.SiteViews.{set_rule_view, set_rule_views, site_view}
use Rattle.core_serialize.specs.FieldTests.{is_iterator_of, HasIterator}
use Rattle.core_serialize.proofs.Tables.{is_in_append}

or_none : (b : Bool) → (b || false) ≡ b
or_none b = grind (arith, common_steps)

-- one number more
pub is_in_last : (s x : ℕ) (xs : List ℕ) → is_in s (xs ++ x ∷ []) ≡ (is_in s xs || (x == s))
is_in_last s x xs = is_in_append s xs (x ∷ []) ∙ ap (λ b. is_in s xs || b) (or_none (x == s))

-- 1. the calls that are looped over
pub looped_more : (bs : List Binding) (k : ℕ) (b : Binding) (old new : List ℕ) (s : ℕ) → k < length bs → b ≡ get_or bs k b → is_in s old ≡ list_any (is_iterator_of s) (map site_view (take k bs))
    → is_in s new ≡ (is_in s old || is_iterator_of s (site_view b)) → is_in s new ≡ list_any (is_iterator_of s) (map site_view (take (k + 1) bs))
looped_more bs k b old new s l e h n =
    n
    ∙ ap (λ x. x || is_iterator_of s (site_view b)) h
    ∙ ap (λ x. list_any (is_iterator_of s) (map site_view (take k bs)) || x) (sym (or_none (is_iterator_of s (site_view b))))
    ∙ sym (list_any-append (is_iterator_of s) (map site_view (take k bs)) (site_view b ∷ []))
    ∙ ap (list_any (is_iterator_of s)) (sym (map-append site_view (take k bs) (b ∷ [])))
    ∙ ap (λ x. list_any (is_iterator_of s) (map site_view (take k bs ++ x ∷ []))) e
    ∙ ap (λ l. list_any (is_iterator_of s) (map site_view l)) (sym (take_more bs k b l))

-- 2. the lists of rules
abbrev pub gone_over : List ℕ → Rule → List ℕ
gone_over calls r = filter (λ s. is_in s (set_rule_view r).iterators) calls

-- the list of one rule more
pub lists_more : (calls : List ℕ) (rules : List Rule) (k : ℕ) (r : Rule) (old new : List (Vec ℕ)) (v : Vec ℕ) → k < length rules → r ≡ get_or rules k r → v.items ≡ gone_over calls r → new ≡ old ++ v ∷ []
    → class_lists old ≡ map (gone_over calls) (take k rules) → class_lists new ≡ map (gone_over calls) (take (k + 1) rules)
lists_more calls rules k r old new v l e h n m =
    ap class_lists n
    ∙ map-append (λ c. c.items) old (v ∷ [])
    ∙ (λ i. m i ++ h i ∷ [])
    ∙ sym (map-append (gone_over calls) (take k rules) (r ∷ []))
    ∙ ap (λ x. map (gone_over calls) (take k rules ++ x ∷ [])) e
    ∙ ap (map (gone_over calls)) (sym (take_more rules k r l))

-- where a set has a site for the answers of each call that a rule goes over, the list has all of these
pub listed_all : (sites : List Site) (calls : List ℕ) → ((s : ℕ) → is_in s calls ≡ list_any (is_iterator_of s) sites) → (rules : List Rule)
    → ((r : SetRule) (s : ℕ) → Contains (set_rule_views rules) r → Contains r.iterators s → HasIterator sites s) → (i s : ℕ) → needs_at (set_rule_views rules) (loop_test s) i ≡ is_in s (get_or (map (gone_over calls) rules) i [])
listed_all sites calls h [] picks i s = refl
listed_all sites calls h (r ∷ rules) picks zero s =
    let over = λ (x : ℕ). is_in x (set_rule_view r).iterators in
    bool_same (is_in s (set_rule_view r).iterators) (is_in s (filter over calls))
    (λ t.
    let there = h s ∙ picks (set_rule_view r) s (in_head (set_rule_view r) (set_rule_views rules)) (member_found s (set_rule_view r).iterators t) in
    member_is_in s (filter over calls) (in_filter over calls s (member_found s calls there) t))
    (λ t. (from_filter over calls s (member_found s (filter over calls) t)).1)
listed_all sites calls h (r ∷ rules) picks (suc i) s = listed_all sites calls h rules (λ q x c. picks q x (in_tail (set_rule_view r) q (set_rule_views rules) c)) i s

-- 3. counts
-- where none is counted, all rules may go over a call
pub none_counted : (p : ℕ → Bool) (here counts : List ℕ) (s : ℕ) → counts ≡ [] → length (filter p here) ≤ get_or counts s (length here)
none_counted p here counts s e = grind (arith, common_steps, length-filter_both p (λ i. not (p i)) (λ i. refl) here)

both_more : (p q : Bool) (a b c most m : ℕ) → ((n : ℕ) → n ≤ most → n ≤ a + as_number p → n ≤ b) → ((n : ℕ) → n ≤ most → n ≤ b + as_number q → n ≤ c) → m ≤ most → m ≤ a + as_number (p || q) → m ≤ c
both_more p q a b c most m f g l h = grind arith

-- some calls counted, and one more
pub counted_more : (calls : List ℕ) (k x s : ℕ) (a b c most m : ℕ) → k < length calls → x ≡ get_or calls k x → ((n : ℕ) → n ≤ most → n ≤ a + as_number (is_in s (take k calls)) → n ≤ b)
    → ((n : ℕ) → n ≤ most → n ≤ b + as_number (x == s) → n ≤ c) → m ≤ most → m ≤ a + as_number (is_in s (take (k + 1) calls)) → m ≤ c
counted_more calls k x s a b c most m l e f g within h =
    let more : is_in s (take (k + 1) calls) ≡ (is_in s (take k calls) || (x == s)) =
    ap (is_in s) (take_more calls k x l) ∙ is_in_last s (get_or calls k x) (take k calls) ∙ ap (λ y. is_in s (take k calls) || (y == s)) (sym e) in
    both_more (is_in s (take k calls)) (x == s) a b c most m f g within (subst (λ p. m ≤ a + as_number p) more h)

-- the rules so far counted, and one more
pub rule_counted : (p : ℕ → Bool) (here : List ℕ) (k x b c : ℕ) (q : Bool) → k < length here → x ≡ get_or here k 0 → p x ≡ q → ((n : ℕ) → n ≤ length here → n ≤ b + as_number q → n ≤ c)
    → length (filter p (take k here)) ≤ b → length (filter p (take (k + 1) here)) ≤ c
rule_counted p here k x b c q l e t g h =
    let last = ap (λ y. filter p (take k here ++ y ∷ [])) (sym e) in
    let more = ap length (ap (filter p) (take_more here k 0 l) ∙ last ∙ filter-append p (take k here) (x ∷ [])) ∙ length-append (filter p (take k here)) (filter p (x ∷ [])) in
    let one : length (filter p (x ∷ [])) ≡ as_number q = alone q t in
    let most = length-filter_both p (λ i. not (p i)) (λ i. refl) (take (k + 1) here) in
    let taken = length-take-le (k + 1) here (omega (arith, l)) in
    g (length (filter p (take (k + 1) here))) (omega (arith, most, taken, l)) (omega (arith, more, one, h))
  where
    alone : (q : Bool) → p x ≡ q → length (filter p (x ∷ [])) ≡ as_number q
    alone q t = grind (arith, common_steps)
