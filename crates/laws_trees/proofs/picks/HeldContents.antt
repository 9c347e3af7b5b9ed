-- What a site has under a pick, it can hold; and the other way round, where it takes no answers.
use Rattle.std.proofs.Common.{◌≡◌, ℕ, zero, suc, List, [], ◌∷◌, ◌++◌, Option, Some, slice_get, Contains, refl, ap, ◌∙◌, subst, arith}
use Rattle.std.proofs.lemmas.Option.{none-some, same_Some}
use Rattle.std.proofs.lemmas.Grind.{common_steps}
use Rattle.model.specs.rules.Values.{Value, of_variant, of_struct, Values, no_value, value_and, listed}
use Rattle.model.specs.rules.Meaning.{Content, one, parts, just, many, Contents, contents, Meaning, bool_literal, int_literal, literal_value, constant_value, extractor_answer}
use Rattle.model.specs.rules.Outcome.{then_option}
use Rattle.model.specs.trees.Run.{as_value, from_value, part_at}
use Rattle.model.specs.sites.Sites.{SiteTerm, bool_term, int_term, prim_term, argument, extractor_call, constructor_call, pick_of, variant_made, variant_field, struct_made, struct_field, some_made, some_part, tuple_part, no_site, SiteTerms, no_site_term, site_term_and}
use Rattle.model.specs.sites.Serves.{Holds, holds_bool, holds_int, holds_prim, holds_argument, holds_extractor, holds_pure, holds_impure, holds_pick, holds_variant, holds_variant_field, holds_struct, holds_struct_field, holds_some, holds_part, holds_tuple_part, HoldsAll, holds_none, holds_and}
use Rattle.model.specs.rules.Picks.{Pick, picked, field_of_variant, field_of_struct, part_of_some, call_answer, site_content, site_values}
use Rattle.model.specs.trees.Collects.{calls_in, calls_in_all}
use Rattle.model.proofs.Members.{member_from_get}
use Rattle.model.proofs.Options.{then_some}
use Rattle.laws_trees.specs.PickLaws.{ContentsAreHeld, HeldAreContents}

-- 1. where one after another gives something
from_one : (o : Option Value) (c : Content) → from_value o ≡ Some c → (w : Value) × (o ≡ Some w) × (one w ≡ c)
from_one o c e = grind (arith, common_steps, none-some, same_Some)

is_one : (c : Content) (w : Value) → as_value c ≡ Some w → c ≡ one w
is_one c w e = grind (arith, common_steps, same_Some, none-some)

is_picked : (k : Pick) (s : SiteTerm) (c d : Content) → picked k s c ≡ Some d → (cs : Contents) × (c ≡ many cs) × Contains (contents cs) d
is_picked k s c d e = grind (arith, common_steps, then_some, member_from_get, none-some)

pub is_just : (c d : Content) → part_of_some c ≡ Some d → c ≡ just d
is_just c d e = grind (arith, common_steps, same_Some, none-some)

is_part : (c : Content) (i : ℕ) (d : Content) → part_at c i ≡ Some d → (vs : Values) × (w : Value) × (c ≡ parts vs) × (slice_get (listed vs) i ≡ Some w) × (one w ≡ d)
is_part c i d e = grind (arith, common_steps, from_one, none-some)

is_struct_field : (i : ℕ) (u : Value) (d : Content) → field_of_struct i u ≡ Some d → (ty : ℕ) × (vs : Values) × (w : Value) × (u ≡ of_struct ty vs) × (slice_get (listed vs) i ≡ Some w) × (one w ≡ d)
is_struct_field i u d e = grind (arith, common_steps, from_one, none-some)

is_variant_field : (variant i : ℕ) (u : Value) (d : Content) → field_of_variant variant i u ≡ Some d → (ty : ℕ) × (vs : Values) × (w : Value) × (u ≡ of_variant ty variant vs) × (slice_get (listed vs) i ≡ Some w) × (one w ≡ d)
is_variant_field variant i u d e = grind (arith, common_steps, from_one, none-some)

-- 2. sites
module _ (m : Meaning) (args : List Value) (k : Pick) where
  call_held : (t i : ℕ) (ss : SiteTerms) (vs : Values) (c : Content) → HoldsAll m args ss vs → call_answer m t i vs ≡ Some c → Holds m args (constructor_call t ss i) c
  call_held t zero ss vs c h e = holds_pure h e
  call_held t (suc before) ss vs c h e = holds_impure h e

  one_held : (s : SiteTerm) → ((c : Content) → site_content m args k s ≡ Some c → Holds m args s c) → (w : Value) → then_option (site_content m args k s) as_value ≡ Some w → Holds m args s (one w)
  one_held s h w e = let a = then_some (site_content m args k s) as_value w e in subst (Holds m args s) (is_one a.0 w a.2) (h a.0 a.1)

  mutual
    held : (s : SiteTerm) (c : Content) → site_content m args k s ≡ Some c → Holds m args s c
    held (bool_term b ty) c e = let a = from_one (literal_value m (bool_literal b ty)) c e in subst (Holds m args (bool_term b ty)) a.2 (holds_bool a.1)
    held (int_term z ty) c e = let a = from_one (literal_value m (int_literal z ty)) c e in subst (Holds m args (int_term z ty)) a.2 (holds_int a.1)
    held (prim_term name) c e = let a = from_one (constant_value m name) c e in subst (Holds m args (prim_term name)) a.2 (holds_prim a.1)
    held (argument i) c e = let a = from_one (slice_get args i) c e in subst (Holds m args (argument i)) a.2 (holds_argument a.1)
    held (extractor_call t s) c e =
        let a = then_some (then_option (site_content m args k s) as_value) (extractor_answer m t) c e in
        holds_extractor (one_held s (λ d f. held s d f) a.0 a.1) a.2
    held (constructor_call t ss i) c e =
        let a = then_some (site_values m args k ss) (call_answer m t i) c e in
        call_held t i ss a.0 c (all_held ss a.0 a.1) a.2
    held (pick_of s) c e =
        let a = then_some (site_content m args k s) (picked k s) c e in
        let b = is_picked k s a.0 c a.2 in
        holds_pick (subst (Holds m args s) b.1 (held s a.0 a.1)) b.2
    held (variant_made ty variant ss) c e =
        let a = then_some (site_values m args k ss) (λ vs. Some (one (of_variant ty variant vs))) c e in
        subst (Holds m args (variant_made ty variant ss)) (same_Some (one (of_variant ty variant a.0)) c a.2) (holds_variant (all_held ss a.0 a.1))
    held (variant_field s variant i) c e =
        let a = then_some (then_option (site_content m args k s) as_value) (field_of_variant variant i) c e in
        let b = is_variant_field variant i a.0 c a.2 in
        subst (Holds m args (variant_field s variant i)) b.5 (holds_variant_field (subst (λ u. Holds m args s (one u)) b.3 (one_held s (λ d f. held s d f) a.0 a.1)) b.4)
    held (struct_made ty ss) c e =
        let a = then_some (site_values m args k ss) (λ vs. Some (one (of_struct ty vs))) c e in
        subst (Holds m args (struct_made ty ss)) (same_Some (one (of_struct ty a.0)) c a.2) (holds_struct (all_held ss a.0 a.1))
    held (struct_field s i) c e =
        let a = then_some (then_option (site_content m args k s) as_value) (field_of_struct i) c e in
        let b = is_struct_field i a.0 c a.2 in
        subst (Holds m args (struct_field s i)) b.5 (holds_struct_field (subst (λ u. Holds m args s (one u)) b.3 (one_held s (λ d f. held s d f) a.0 a.1)) b.4)
    held (some_made s) c e =
        let a = then_some (site_content m args k s) (λ d. Some (just d)) c e in
        subst (Holds m args (some_made s)) (same_Some (just a.0) c a.2) (holds_some (held s a.0 a.1))
    held (some_part s) c e =
        let a = then_some (site_content m args k s) part_of_some c e in
        holds_part (subst (Holds m args s) (is_just a.0 c a.2) (held s a.0 a.1))
    held (tuple_part s i) c e =
        let a = then_some (site_content m args k s) (λ d. part_at d i) c e in
        let b = is_part a.0 i c a.2 in
        subst (Holds m args (tuple_part s i)) b.4 (holds_tuple_part (subst (Holds m args s) b.2 (held s a.0 a.1)) b.3)
    held no_site c e = absurd (none-some c e)

    all_held : (ss : SiteTerms) (vs : Values) → site_values m args k ss ≡ Some vs → HoldsAll m args ss vs
    all_held no_site_term vs e = subst (HoldsAll m args no_site_term) (same_Some no_value vs e) holds_none
    all_held (site_term_and s ss) vs e =
        let a = then_some (then_option (site_content m args k s) as_value) (λ w. then_option (site_values m args k ss) (λ ws. Some (value_and w ws))) vs e in
        let b = then_some (site_values m args k ss) (λ ws. Some (value_and a.0 ws)) vs a.2 in
        subst (HoldsAll m args (site_term_and s ss)) (same_Some (value_and a.0 b.0) vs b.2) (holds_and (one_held s (λ d f. held s d f) a.0 a.1) (all_held ss b.0 b.1))

pub contents_are_held_lem : ContentsAreHeld
contents_are_held_lem m args k s c e = held m args k s c e

-- 3. sites that take no answers
both_empty : (xs ys : List SiteTerm) → xs ++ ys ≡ [] → (xs ≡ []) × (ys ≡ [])
both_empty [] ys e = (refl, e)
both_empty (x ∷ xs) ys e = grind (arith, common_steps)

module _ (m : Meaning) (args : List Value) (k : Pick) where
  mutual
    had : (s : SiteTerm) (c : Content) → calls_in s ≡ [] → Holds m args s c → site_content m args k s ≡ Some c
    had (bool_term b ty) _ n (holds_bool e) = ap from_value e
    had (int_term z ty) _ n (holds_int e) = ap from_value e
    had (prim_term name) _ n (holds_prim e) = ap from_value e
    had (argument i) _ n (holds_argument e) = ap from_value e
    had (extractor_call t s) c n (holds_extractor {v = w} h e) = ap (λ o. then_option (then_option o as_value) (extractor_answer m t)) (had s (one w) n h) ∙ e
    had (constructor_call t ss zero) c n (holds_pure {vs = vs} h e) = ap (λ o. then_option o (call_answer m t 0)) (all_had ss vs n h) ∙ e
    had (constructor_call t ss (suc before)) c n (holds_impure {vs = vs} h e) = ap (λ o. then_option o (call_answer m t (suc before))) (all_had ss vs n h) ∙ e
    had (pick_of s) c n h = grind (arith, common_steps)
    had (variant_made ty variant ss) _ n (holds_variant {vs = vs} h) = ap (λ o. then_option o (λ ws. Some (one (of_variant ty variant ws)))) (all_had ss vs n h)
    had (variant_field s variant i) _ n (holds_variant_field {ty = ty} {vs = vs} {v = w} h e) = grind (arith, common_steps, had s (one (of_variant ty variant vs)) n h)
    had (struct_made ty ss) _ n (holds_struct {vs = vs} h) = ap (λ o. then_option o (λ ws. Some (one (of_struct ty ws)))) (all_had ss vs n h)
    had (struct_field s i) _ n (holds_struct_field {ty = ty} {vs = vs} h e) = grind (arith, common_steps, had s (one (of_struct ty vs)) n h)
    had (some_made s) _ n (holds_some {c = d} h) = ap (λ o. then_option o (λ u. Some (just u))) (had s d n h)
    had (some_part s) c n (holds_part h) = ap (λ o. then_option o part_of_some) (had s (just c) n h)
    had (tuple_part s i) _ n (holds_tuple_part {vs = vs} h e) = ap (λ o. then_option o (λ d. part_at d i)) (had s (parts vs) n h) ∙ ap from_value e
    had no_site c n h = elim h [ ]

    all_had : (ss : SiteTerms) (vs : Values) → calls_in_all ss ≡ [] → HoldsAll m args ss vs → site_values m args k ss ≡ Some vs
    all_had no_site_term _ n holds_none = refl
    all_had (site_term_and s ss) _ n (holds_and {v = w} {vs = ws} h g) = grind (arith, common_steps, had s (one w), all_had ss ws, both_empty)

pub held_are_contents_lem : HeldAreContents
held_are_contents_lem m args k s c n h = had m args k s c n h
