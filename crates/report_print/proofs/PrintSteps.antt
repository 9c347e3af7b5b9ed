-- Texts that are added part by part: a loop's step, and its end.
use Rattle.std.proofs.Common.{◌≡◌, ℕ, ◌+◌, ◌*◌, ◌/◌, ◌%◌, ◌<◌, ◌≤◌, List, [], ◌∷◌, ◌++◌, map, length, get_or, drop, Option, refl, sym, ap, ◌∙◌, arith}
use Rattle.std.specs.Prelude.{replicate, codes, decimal}
use Rattle.std.proofs.lemmas.List.{append-nil, append_assoc, at_drop_more, at_drop_all, replicate-append-replicate}
use Rattle.std.proofs.lemmas.Nat.{div-add-mod'}
use Rattle.model.specs.lists.Syntax.{Position}
use Rattle.model.specs.trees.Trees.{Arms, no_arm, arm}
use Rattle.model_print.specs.Lines.{Word, Token, word, nothing, Line, line}
use Rattle.model_print.specs.LineTexts.{Names, word_text, token_text, further_text, line_text, lines_text}
use Rattle.model_print.specs.PrintedTrees.{sites_tokens, site_line, site_lines, field_token, arm_line, tree_lines, arms_lines, bind_lines, check_lines}
use Rattle.core_rule_sets.specs.declared.trie_again.Binding.{Binding}
use Rattle.core_rule_sets.specs.SiteViews.{constraint_view, site_view, site_views}
use Rattle.core_serialize.specs.TreeViews.{tree_view, check_view, arm_view, arms_view, steps_view}
use Rattle.core_serialize.specs.declared.serialize.EvalStep.{EvalStep}
use Rattle.core_serialize.specs.declared.serialize.MatchArm.{MatchArm, MatchArm', out-MatchArm, roll-out-MatchArm}
use Rattle.core_serialize.proofs.TreeLaws.{arm_seen}

-- the text of a list, from a number on, is that of its elements, one behind another
pub record IsSpelled {X : Type 0} (whole : ℕ → List X → List ℕ) (one : ℕ → X → List ℕ) : Type 0 where
  pub none : (i : ℕ) → whole i [] ≡ []
  pub more : (i : ℕ) (x : X) (xs : List X) → whole i (x ∷ xs) ≡ one i x ++ whole (i + 1) xs

module _ {X : Type 0} (whole : ℕ → List X → List ℕ) (one : ℕ → X → List ℕ) (s : IsSpelled whole one) (xs : List X) where
  pub one_more : (i : ℕ) (x : X) (before after all : List ℕ) → i < length xs → x ≡ get_or xs i x → after ≡ before ++ one i x
      → before ++ whole i (drop i xs) ≡ all → after ++ whole (i + 1) (drop (i + 1) xs) ≡ all
  one_more i x before after all h at a inv =
      let rest = whole (i + 1) (drop (i + 1) xs) in
      ap (λ (t : List ℕ). t ++ rest) a ∙ append_assoc before (one i x) rest
      ∙ ap (λ (t : List ℕ). before ++ t) (sym (s.more i x (drop (i + 1) xs)) ∙ ap (λ (y : X). whole i (y ∷ drop (i + 1) xs)) at ∙ sym (at_drop_more (whole i) xs i x h))
      ∙ inv

  pub no_more : (i : ℕ) (before all : List ℕ) → length xs ≤ i → before ++ whole i (drop i xs) ≡ all → before ≡ all
  no_more i before all h inv = sym (append-nil before) ∙ ap (λ (t : List ℕ). before ++ t) (sym (at_drop_all (whole i) xs i h ∙ s.none i)) ∙ inv

-- tokens behind others, and lines behind others
further_append : (n : Names) (ts us : List Token) → further_text n (ts ++ us) ≡ further_text n ts ++ further_text n us
further_append n [] us = refl
further_append n (t ∷ ts) us =
    ap (λ (x : List ℕ). codes " " ++ token_text n t ++ x) (further_append n ts us)
    ∙ sym (append_assoc (codes " " ++ token_text n t) (further_text n ts) (further_text n us))

pub lines_append : (n : Names) (said : Position → List ℕ) (ls ms : List Line) → lines_text n said (ls ++ ms) ≡ lines_text n said ls ++ lines_text n said ms
lines_append n said [] ms = refl
lines_append n said (l ∷ ls) ms = ap (λ (x : List ℕ). line_text n said l ++ x) (lines_append n said ls ms) ∙ sym (append_assoc (line_text n said l) (lines_text n said ls) (lines_text n said ms))

-- a line whose first token is a word, before others
line_by_word : (n : Names) (said : Position → List ℕ) (d : ℕ) (w : Word) (ss : List ℕ)
    → line_text n said (line d (word w ∷ sites_tokens ss) nothing) ≡ replicate d 32 ++ (word_text w ++ (further_text n (sites_tokens ss) ++ 10 ∷ []))
line_by_word n said d w ss =
    let r : List ℕ = replicate d 32 in
    let f : List ℕ = further_text n (sites_tokens ss) in
    ap (λ (x : List ℕ). x ++ 10 ∷ []) (append-nil (r ++ (word_text w ++ f))) ∙ append_assoc r (word_text w ++ f) (10 ∷ [])
    ∙ ap (λ (x : List ℕ). r ++ x) (append_assoc (word_text w) f (10 ∷ []))

pub head_before : (n : Names) (said : Position → List ℕ) (d : ℕ) (w : Word) (ss : List ℕ) (old : List ℕ) (ls : List Line)
    → (old ++ (replicate d 32 ++ (word_text w ++ (further_text n (sites_tokens ss) ++ 10 ∷ [])))) ++ lines_text n said ls
    ≡ old ++ lines_text n said (line d (word w ∷ sites_tokens ss) nothing ∷ ls)
head_before n said d w ss old ls =
    append_assoc old (replicate d 32 ++ (word_text w ++ (further_text n (sites_tokens ss) ++ 10 ∷ []))) (lines_text n said ls)
    ∙ ap (λ (x : List ℕ). old ++ (x ++ lines_text n said ls)) (sym (line_by_word n said d w ss))

-- lists of sites, of fields, of steps and of arms
module _ (n : Names) where
  pub sites_spelled : IsSpelled (λ i (ss : List ℕ). further_text n (sites_tokens ss)) (λ i s. codes " b" ++ decimal s)
  sites_spelled = record { none = λ i. refl; more = λ i x xs. refl }

  pub fields_spelled : IsSpelled (λ i (fs : List (Option ℕ)). further_text n (map field_token fs)) (λ i f. further_text n (field_token f ∷ []))
  fields_spelled = record { none = λ i. refl; more = λ i x xs. sym (simp append_assoc) }

  module _ (said : Position → List ℕ) where
    pub bindings_spelled : IsSpelled (λ i (bs : List Binding). lines_text n said (site_lines i (site_views bs))) (λ i b. line_text n said (site_line i (site_view b)))
    bindings_spelled = record { none = λ i. refl; more = λ i x xs. refl }

    pub steps_spelled : (d : ℕ) → IsSpelled (λ i (ss : List EvalStep). lines_text n said (tree_lines d (steps_view ss))) (λ i s. lines_text n said (bind_lines d s.bind_order.items) ++ lines_text n said (check_lines d (check_view s.check)))
    steps_spelled d = record {
      none = λ i. refl;
      more = λ i x xs. lines_append n said (bind_lines d x.bind_order.items) (check_lines d (check_view x.check) ++ tree_lines d (steps_view xs))
          ∙ ap (λ (t : List ℕ). lines_text n said (bind_lines d x.bind_order.items) ++ t) (lines_append n said (check_lines d (check_view x.check)) (tree_lines d (steps_view xs)))
          ∙ sym (append_assoc (lines_text n said (bind_lines d x.bind_order.items)) (lines_text n said (check_lines d (check_view x.check))) (lines_text n said (tree_lines d (steps_view xs))));
    }

    arm_more : (d : ℕ) (a : MatchArm) (rest : Arms) → lines_text n said (arms_lines d (arm_view a rest)) ≡ lines_text n said (arms_lines d (arm_view a no_arm)) ++ lines_text n said (arms_lines d rest)
    unfolding arm_view
    arm_more d (MatchArm' c fields body) rest =
        lines_append n said (arm_line d (constraint_view c) fields.items ∷ tree_lines (d + 2) (tree_view body)) (arms_lines d rest)
        ∙ ap (λ (ls : List Line). lines_text n said (arm_line d (constraint_view c) fields.items ∷ ls) ++ lines_text n said (arms_lines d rest)) (sym (append-nil (tree_lines (d + 2) (tree_view body))))

    -- an arm alone
    pub arm_alone : (d : ℕ) (a : MatchArm) → lines_text n said (arms_lines d (arm_view a no_arm))
        ≡ line_text n said (arm_line d (constraint_view (out-MatchArm a).constraint) (out-MatchArm a).bindings.items) ++ lines_text n said (tree_lines (d + 2) (tree_view (out-MatchArm a).body))
    arm_alone d a =
        ap (λ (y : MatchArm). lines_text n said (arms_lines d (arm_view y no_arm))) (sym (roll-out-MatchArm a))
        ∙ ap (λ (x : Arms). lines_text n said (arms_lines d x)) (arm_seen (out-MatchArm a).constraint (out-MatchArm a).bindings (out-MatchArm a).body no_arm)
        ∙ ap (λ (ls : List Line). lines_text n said (arm_line d (constraint_view (out-MatchArm a).constraint) (out-MatchArm a).bindings.items ∷ ls))
        (append-nil (tree_lines (d + 2) (tree_view (out-MatchArm a).body)))

    pub arms_spelled : (d : ℕ) → IsSpelled (λ i (arms : List MatchArm). lines_text n said (arms_lines d (arms_view arms))) (λ i a. lines_text n said (arms_lines d (arm_view a no_arm)))
    arms_spelled d = record { none = λ i. refl; more = λ i x xs. arm_more d x (arms_view xs) }

all_spaces : (d : ℕ) → d / 32 * 32 + d % 32 / 4 * 4 + d % 32 % 4 * 1 ≡ d
all_spaces d = grind (arith, div-add-mod' d 32, div-add-mod' (d % 32) 4)

-- spaces by 32, then by 4, then one by one
pub spaces_joined : (d : ℕ) (old one two new : List ℕ) → one ≡ old ++ replicate (d / 32 * 32) 32 → two ≡ one ++ replicate (d % 32 / 4 * 4) 32 → new ≡ two ++ replicate (d % 32 % 4 * 1) 32 → new ≡ old ++ replicate d 32
spaces_joined d old one two new h h2 h3 =
    let a : ℕ = d / 32 * 32 in
    let b : ℕ = d % 32 / 4 * 4 in
    let c : ℕ = d % 32 % 4 * 1 in
    let both : two ≡ old ++ replicate (a + b) 32 = h2 ∙ ap (λ (t : List ℕ). t ++ replicate b 32) h ∙ append_assoc old (replicate a 32) (replicate b 32) ∙ ap (λ (t : List ℕ). old ++ t) (replicate-append-replicate a b 32) in
    h3 ∙ ap (λ (t : List ℕ). t ++ replicate c 32) both ∙ append_assoc old (replicate (a + b) 32) (replicate c 32)
    ∙ ap (λ (t : List ℕ). old ++ t) (replicate-append-replicate (a + b) c 32 ∙ ap (λ (n : ℕ). replicate n 32) (all_spaces d))
