-- What code reads, of lists.
use Rattle.std.proofs.Common.{◌≡◌, ◌||◌, ◌&&◌, ◌==◌, ◌+◌, ◌<◌, ◌≤◌, ℕ, Bool, true, false, not, List, [], ◌∷◌, length, get_or, drop, Option, Some, None, refl, sym, ap, ◌∙◌}
use Rattle.std.proofs.lemmas.List.{at_drop_more, at_drop_all}
use Rattle.std.specs.List.{list_any}
use Rattle.model.specs.trees.Places.{field_sites, is_in}
use Rattle.model_code.specs.Code.{CodeArms, Place, no_code_arm, no_statement}
use Rattle.model_code.specs.MovedOnce.{any_touch, arms_read, block_reads, read_behind, statement_reads, touches}
use Rattle.rust_code.specs.declared.code.Use.{Use}
use Rattle.rust_code.specs.declared.code.CodeArm.{CodeArm}
use Rattle.rust_code.specs.declared.code.Statement.{Statement}
use Rattle.rust_code.specs.CodeViews.{arm_view, arms_before, before, place_view, statement_view, use_views}

pub any_touch_listed : (q : Place) (us : List Use) → any_touch q (use_views us) ≡ list_any (λ u. touches q (place_view u.place)) us
any_touch_listed q [] = refl
any_touch_listed q (u ∷ us) = ap (λ b. touches q (place_view u.place) || b) (any_touch_listed q us)

or_false : (b : Bool) → b ≡ (b || false)
or_false true = refl
or_false false = refl

pub in_one : (v w : ℕ) → (v == w) ≡ is_in w (v ∷ [])
in_one v w = or_false (v == w)

pub in_fields : (s : ℕ) (fs : List (Option ℕ)) → is_in s (field_sites fs) ≡ list_any (λ f. is_in s (field_sites (f ∷ []))) fs
in_fields s [] = refl
in_fields s (None ∷ fs) = in_fields s fs
in_fields s (Some x ∷ fs) = ap (λ b. (x == s) || b) (in_fields s fs) ∙ ap (λ b. b || list_any (λ f. is_in s (field_sites (f ∷ []))) fs) (or_false (x == s))

-- statement by statement
module _ (q : Place) (ss : List Statement) (i : ℕ) where
  abbrev pub left : Bool
  left = block_reads q (before (drop i ss) no_statement)

  abbrev more : Bool
  more = block_reads q (before (drop (i + 1) ss) no_statement)

  left_is : (s : Statement) → i < length ss → s ≡ get_or ss i s → left ≡ (statement_reads q (statement_view s) || read_behind q (statement_view s) more)
  left_is s h at = at_drop_more (λ l. block_reads q (before l no_statement)) ss i s h ∙ ap (λ x. block_reads q (before (x ∷ drop (i + 1) ss) no_statement)) (sym at)

  module _ (s : Statement) (read hidden : Bool) (h : i < length ss) (at : s ≡ get_or ss i s) (reads : read ≡ statement_reads q (statement_view s)) where
    pub read_here : read ≡ true → left ≡ true
    read_here e = left_is s h at ∙ ap (λ b. b || read_behind q (statement_view s) more) (sym reads ∙ e)

    not_here : read ≡ false → left ≡ read_behind q (statement_view s) more
    not_here e = left_is s h at ∙ ap (λ b. b || read_behind q (statement_view s) more) (sym reads ∙ e)

    pub hidden_here : ((later : Bool) → read_behind q (statement_view s) later ≡ (not hidden && later)) → read ≡ false → hidden ≡ true → left ≡ false
    hidden_here hides e f = not_here e ∙ hides more ∙ ap (λ b. not b && more) f

    pub read_further : ((later : Bool) → read_behind q (statement_view s) later ≡ (not hidden && later)) → read ≡ false → hidden ≡ false → left ≡ more
    read_further hides e f = not_here e ∙ hides more ∙ ap (λ b. not b && more) f

  pub none_left : length ss ≤ i → left ≡ false
  none_left h = at_drop_all (λ l. block_reads q (before l no_statement)) ss i h

-- arm by arm
module _ (q : Place) (arms : List CodeArm) (i : ℕ) where
  abbrev pub arms_left : Bool
  arms_left = arms_read q (arms_before (drop i arms) no_code_arm)

  abbrev pub more_arms : Bool
  more_arms = arms_read q (arms_before (drop (i + 1) arms) no_code_arm)

  pub arm_here : (a : CodeArm) (read : Bool) → i < length arms → a ≡ get_or arms i a → ((rest : CodeArms) → arms_read q (arm_view a rest) ≡ (read || arms_read q rest)) → arms_left ≡ (read || more_arms)
  arm_here a read h at reads =
      at_drop_more (λ l. arms_read q (arms_before l no_code_arm)) arms i a h ∙ ap (λ x. arms_read q (arms_before (x ∷ drop (i + 1) arms) no_code_arm)) (sym at)
      ∙ reads (arms_before (drop (i + 1) arms) no_code_arm)

  pub no_arm_left : length arms ≤ i → arms_left ≡ false
  no_arm_left h = at_drop_all (λ l. arms_read q (arms_before l no_code_arm)) arms i h
