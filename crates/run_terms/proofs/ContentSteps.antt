-- What the view of a content is, where its parts lie in a `Vec`.
use Rattle.std.proofs.Common.{◌≡◌, ℕ, ◌+◌, ◌<◌, ◌≤◌, List, [], ◌∷◌, ◌++◌, length, get_or, drop, refl, ap, ◌∙◌, Vec}
use Rattle.std.proofs.lemmas.List.{at_drop_more, at_drop_all}
use Rattle.std.specs.declared.alloc.Global.{Global}
use Rattle.run_terms.specs.declared.values.Content as C
use Rattle.run_terms.specs.declared.values.Content.{Content, Row_of-Content, end_of-Content, more_of-Content, items-the_row-Content}
use Rattle.run_terms.specs.declared.values.Content.TheBlock.{hidden-the_row-Content-0, items_hidden-the_row-Content-0}
use Rattle.model.specs.rules.Meaning.{Contents, no_content, content_and, many}
use Rattle.run_terms.specs.ValueViews.{content_view, row_contents, content_views}

row_contents-items : {m : _} (r : Row_of-Content m) → row_contents r ≡ content_views (items-the_row-Content m r)
row_contents-items end_of-Content = refl
row_contents-items (more_of-Content v vs) = ap (content_and (content_view v)) (row_contents-items vs)

pub row_contents-hidden : (v : Vec Content Global) → row_contents (hidden-the_row-Content-0 v) ≡ content_views v.items
row_contents-hidden v = row_contents-items (hidden-the_row-Content-0 v) ∙ ap content_views (items_hidden-the_row-Content-0 v)

pub view-Many : (v : Vec Content Global) → content_view (C.Many v) ≡ many (content_views v.items)
view-Many v = ap many (row_contents-hidden v)

-- contents after others
unfoldable pub put_before : List Content → Contents → Contents
put_before [] rs = rs
put_before (v ∷ vs) rs = content_and (content_view v) (put_before vs rs)

pub put-push : (vs : List Content) (v : Content) (rs : Contents) → put_before (vs ++ v ∷ []) rs ≡ put_before vs (content_and (content_view v) rs)
unfolding put_before
put-push [] v rs = refl
put-push (w ∷ vs) v rs = ap (content_and (content_view w)) (put-push vs v rs)

pub put-none : (vs : List Content) → put_before vs no_content ≡ content_views vs
unfolding put_before
put-none [] = refl
put-none (v ∷ vs) = ap (content_and (content_view v)) (put-none vs)

pub put-nil : (rs : Contents) → put_before [] rs ≡ rs
unfolding put_before
put-nil rs = refl

-- a step of a loop that clones each content
pub put_step : (out new parts : List Content) (w x : Content) (i : ℕ) → i < length parts → x ≡ get_or parts i x → content_view w ≡ content_view x → new ≡ out ++ w ∷ [] → put_before out (content_views (drop i parts)) ≡ content_views parts → put_before new (content_views (drop (i + 1) parts)) ≡ content_views parts
put_step out new parts w x i h at made is inv =
    let a = put-push out w (content_views (drop (i + 1) parts)) in
    let d = at_drop_more content_views parts i x h in
    cc

pub put_end : (out parts : List Content) (i : ℕ) → length parts ≤ i → put_before out (content_views (drop i parts)) ≡ content_views parts → content_views out ≡ content_views parts
put_end out parts i h inv =
    let a = at_drop_all content_views parts i h in
    let b = put-none out in
    cc

pub ruleset content_steps = (row_contents-hidden, view-Many, put-nil)
