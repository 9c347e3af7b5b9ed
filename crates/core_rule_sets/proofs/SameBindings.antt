-- Equal bindings are one site, and the other way round.
use Rattle.std.proofs.Common.{◌≡◌, ◌==◌, ◌&&◌, ℕ, true, List, sym, ap, ap₂, ◌∙◌, eqb-true, eq-eqb, arith}
use Rattle.std.specs.Ordering.{int_eq}
use Rattle.std.specs.Cmp.Lexicographic.{pointwise, same_text}
use Rattle.std.proofs.lemmas.Cmp.{nat_list_eq_equiv}
use Rattle.std.proofs.lemmas.Bool.{and_parts, and_from, false≢true}
use Rattle.std.proofs.lemmas.Bool.Decides.{Decides-int_eq}
use Rattle.std.proofs.Math.Bool.{beq}
use Rattle.std.proofs.lemmas.Grind.{common_steps}
use Rattle.model.specs.sites.Sites.{bool_site, int_site, prim_site, argument_site, extractor_site, constructor_site, iterator_site, make_variant_site, match_variant_site, make_struct_site, extract_struct_site, make_some_site, match_some_site, match_tuple_site}
use Rattle.model.proofs.SameSites.{beq_means, beq_same}
use Rattle.core_rule_sets.specs.SiteViews.{site_view}
use Rattle.core_rule_sets.specs.declared.trie_again.Binding.{Binding}
use Rattle.core_rule_sets.specs.declared.trie_again.Binding.TheVariants as B
use Rattle.core_rule_sets.specs.contracts.trie_again.BindingPartialEq.TheImpl.{ghosts}

list_means : (xs ys : List ℕ) → pointwise ◌==◌ xs ys ≡ true → xs ≡ ys
list_means xs ys h = same_text xs ys (sym h)

list_same : (xs ys : List ℕ) → xs ≡ ys → pointwise ◌==◌ xs ys ≡ true
list_same xs ys e = ap (pointwise ◌==◌ xs) (sym e) ∙ nat_list_eq_equiv.refl xs

pub one_view : (a b : Binding) → ghosts.eq a b ≡ true → site_view a ≡ site_view b
one_view (B.ConstBool x s) (B.ConstBool y t) h = let p = and_parts (beq x y) (s.0 == t.0) h in ap₂ bool_site (beq_means x y p.0) (eqb-true s.0 t.0 p.1)
one_view (B.ConstInt x s) (B.ConstInt y t) h = let p = and_parts (int_eq x y) (s.0 == t.0) h in ap₂ int_site ((Decides-int_eq x y).0 p.0) (eqb-true s.0 t.0 p.1)
one_view (B.ConstPrim s) (B.ConstPrim t) h = ap prim_site (eqb-true s.0 t.0 h)
one_view (B.Argument i) (B.Argument j) h = ap argument_site (eqb-true i j h)
one_view (B.Extractor s x) (B.Extractor t y) h = let p = and_parts (s.0 == t.0) (x == y) h in ap₂ extractor_site (eqb-true s.0 t.0 p.0) (eqb-true x y p.1)
one_view (B.Constructor s xs i) (B.Constructor t ys j) h =
    let p = and_parts (s.0 == t.0) (pointwise ◌==◌ xs.items ys.items && (i == j)) h in
    let q = and_parts (pointwise ◌==◌ xs.items ys.items) (i == j) p.1 in
    let e = eqb-true s.0 t.0 p.0 in
    let f = list_means xs.items ys.items q.0 in
    let g = eqb-true i j q.1 in
    λ k. constructor_site (e k) (f k) (g k)
one_view (B.Iterator x) (B.Iterator y) h = ap iterator_site (eqb-true x y h)
one_view (B.MakeVariant s v xs) (B.MakeVariant t w ys) h =
    let p = and_parts (s.0 == t.0) ((v.0 == w.0) && pointwise ◌==◌ xs.items ys.items) h in
    let q = and_parts (v.0 == w.0) (pointwise ◌==◌ xs.items ys.items) p.1 in
    let e = eqb-true s.0 t.0 p.0 in
    let f = eqb-true v.0 w.0 q.0 in
    let g = list_means xs.items ys.items q.1 in
    λ k. make_variant_site (e k) (f k) (g k)
one_view (B.MatchVariant x v i) (B.MatchVariant y w j) h =
    let p = and_parts (x == y) ((v.0 == w.0) && (i == j)) h in
    let q = and_parts (v.0 == w.0) (i == j) p.1 in
    let e = eqb-true x y p.0 in
    let f = eqb-true v.0 w.0 q.0 in
    let g = eqb-true i j q.1 in
    λ k. match_variant_site (e k) (f k) (g k)
one_view (B.MakeStruct s xs) (B.MakeStruct t ys) h =
    let p = and_parts (s.0 == t.0) (pointwise ◌==◌ xs.items ys.items) h in ap₂ make_struct_site (eqb-true s.0 t.0 p.0) (list_means xs.items ys.items p.1)
one_view (B.ExtractStruct x i) (B.ExtractStruct y j) h = let p = and_parts (x == y) (i == j) h in ap₂ extract_struct_site (eqb-true x y p.0) (eqb-true i j p.1)
one_view (B.MakeSome x) (B.MakeSome y) h = ap make_some_site (eqb-true x y h)
one_view (B.MatchSome x) (B.MatchSome y) h = ap match_some_site (eqb-true x y h)
one_view (B.MatchTuple x i) (B.MatchTuple y j) h = let p = and_parts (x == y) (i == j) h in ap₂ match_tuple_site (eqb-true x y p.0) (eqb-true i j p.1)
one_view _ _ h = absurd (false≢true h)

pub one_binding : (a b : Binding) → site_view a ≡ site_view b → ghosts.eq a b ≡ true
one_binding (B.ConstBool x s) (B.ConstBool y t) h = grind (arith, common_steps, and_from (beq x y) (s.0 == t.0), beq x y, beq_same x)
one_binding (B.ConstInt x s) (B.ConstInt y t) h = grind (arith, common_steps, and_from (int_eq x y) (s.0 == t.0))
one_binding (B.ConstPrim s) (B.ConstPrim t) h = let f : s.0 ≡ t.0 = cc in eq-eqb s.0 t.0 f
one_binding (B.Argument i) (B.Argument j) h = let e : i ≡ j = cc in eq-eqb i j e
one_binding (B.Extractor s x) (B.Extractor t y) h = grind (arith, common_steps, and_from (s.0 == t.0) (x == y))
one_binding (B.Constructor s xs i) (B.Constructor t ys j) h =
    let e : s.0 ≡ t.0 = cc in
    let f : xs.items ≡ ys.items = cc in
    let g : i ≡ j = cc in
    and_from (s.0 == t.0) (pointwise ◌==◌ xs.items ys.items && (i == j)) (eq-eqb s.0 t.0 e)
    (and_from (pointwise ◌==◌ xs.items ys.items) (i == j) (list_same xs.items ys.items f) (eq-eqb i j g))
one_binding (B.Iterator x) (B.Iterator y) h = let e : x ≡ y = cc in eq-eqb x y e
one_binding (B.MakeVariant s v xs) (B.MakeVariant t w ys) h =
    let e : s.0 ≡ t.0 = cc in
    let f : v.0 ≡ w.0 = cc in
    let g : xs.items ≡ ys.items = cc in
    and_from (s.0 == t.0) ((v.0 == w.0) && pointwise ◌==◌ xs.items ys.items) (eq-eqb s.0 t.0 e)
    (and_from (v.0 == w.0) (pointwise ◌==◌ xs.items ys.items) (eq-eqb v.0 w.0 f) (list_same xs.items ys.items g))
one_binding (B.MatchVariant x v i) (B.MatchVariant y w j) h =
    let e : x ≡ y = cc in
    let f : v.0 ≡ w.0 = cc in
    let g : i ≡ j = cc in
    and_from (x == y) ((v.0 == w.0) && (i == j)) (eq-eqb x y e) (and_from (v.0 == w.0) (i == j) (eq-eqb v.0 w.0 f) (eq-eqb i j g))
one_binding (B.MakeStruct s xs) (B.MakeStruct t ys) h =
    let e : s.0 ≡ t.0 = cc in
    let g : xs.items ≡ ys.items = cc in
    and_from (s.0 == t.0) (pointwise ◌==◌ xs.items ys.items) (eq-eqb s.0 t.0 e) (list_same xs.items ys.items g)
one_binding (B.ExtractStruct x i) (B.ExtractStruct y j) h = grind (arith, common_steps, and_from (x == y) (i == j))
one_binding (B.MakeSome x) (B.MakeSome y) h = let e : x ≡ y = cc in eq-eqb x y e
one_binding (B.MatchSome x) (B.MatchSome y) h = let e : x ≡ y = cc in eq-eqb x y e
one_binding (B.MatchTuple x i) (B.MatchTuple y j) h = grind (arith, common_steps, and_from (x == y) (i == j))
one_binding _ _ h = cc
