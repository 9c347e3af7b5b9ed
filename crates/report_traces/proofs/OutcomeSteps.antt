-- Texts of values, contents and calls that are added one by one.
use Rattle.std.proofs.Common.{◌≡◌, ℕ, ◌+◌, ◌<◌, ◌≤◌, List, [], ◌∷◌, ◌++◌, length, get_or, drop, map, refl, sym, ap, ◌∙◌}
use Rattle.std.specs.Prelude.{codes}
use Rattle.std.proofs.lemmas.List.{append-nil, append_assoc, at_drop_more, at_drop_all, get_or_default}
use Rattle.run_terms.specs.RunViews.{call_view, call_views, content_list}
use Rattle.run_terms.specs.ValueViews.{content_view, content_views, value_view, value_views}
use Rattle.run_terms.specs.declared.state.Call.{Call}
use Rattle.run_terms.specs.declared.values.Content.{Content}
use Rattle.run_terms.specs.declared.values.Value.{Value}
use Rattle.core_types.specs.declared.ids.TermId.{TermId}
use Rattle.report_traces.specs.EchoedTerms.{each_name}
use Rattle.report_traces.specs.OutcomeTexts.{Names, composed_words, content_words, contents_words, each_call, results_words, value_words, values_words}

-- the text of a list is that of its elements, one behind another
pub record IsSpelled {X : Type 0} (whole : List X → List ℕ) (one : X → List ℕ) : Type 0 where
  pub none : whole [] ≡ []
  pub more : (x : X) (xs : List X) → whole (x ∷ xs) ≡ one x ++ whole xs

module _ {X : Type 0} (whole : List X → List ℕ) (one : X → List ℕ) (s : IsSpelled whole one) (xs : List X) where
  pub one_more : (i : ℕ) (x : X) (before after all : List ℕ) → i < length xs → x ≡ get_or xs i x → after ≡ before ++ one x
      → before ++ whole (drop i xs) ≡ all → after ++ whole (drop (i + 1) xs) ≡ all
  one_more i x before after all h at a inv =
      let rest = whole (drop (i + 1) xs) in
      ap (λ (t : List ℕ). t ++ rest) a ∙ append_assoc before (one x) rest
      ∙ ap (λ (t : List ℕ). before ++ t) (sym (s.more x (drop (i + 1) xs)) ∙ ap (λ (y : X). whole (y ∷ drop (i + 1) xs)) at ∙ sym (at_drop_more whole xs i x h))
      ∙ inv

  -- the same, of the element that stands there
  pub one_more_at : (i : ℕ) (d : X) (before after all : List ℕ) → i < length xs → after ≡ before ++ one (get_or xs i d)
      → before ++ whole (drop i xs) ≡ all → after ++ whole (drop (i + 1) xs) ≡ all
  one_more_at i d before after all h a inv = one_more i (get_or xs i d) before after all h (get_or_default xs i d (get_or xs i d) h) a inv

  pub no_more : (i : ℕ) (before all : List ℕ) → length xs ≤ i → before ++ whole (drop i xs) ≡ all → before ≡ all
  no_more i before all h inv = sym (append-nil before) ∙ ap (λ (t : List ℕ). before ++ t) (sym (at_drop_all whole xs i h ∙ s.none)) ∙ inv

module _ (n : Names) where
  pub values_spelled : IsSpelled (λ (vs : List Value). values_words n (value_views vs)) (λ v. codes " " ++ value_words n (value_view v))
  values_spelled = record { none = refl; more = λ x xs. refl }

  pub contents_spelled : IsSpelled (λ (cs : List Content). contents_words n (content_views cs)) (λ c. codes " " ++ content_words n (content_view c))
  contents_spelled = record { none = refl; more = λ x xs. refl }

  pub calls_spelled : IsSpelled (λ (cs : List Call). each_call n (call_views cs)) (λ c. codes " " ++ composed_words (n.term c.term.0) (values_words n (value_views c.args.items)))
  calls_spelled = record { none = refl; more = λ x xs. refl }

  pub names_spelled : IsSpelled (λ (ts : List TermId). each_name n (map (λ t. t.0) ts)) (λ t. codes " " ++ n.term t.0)
  names_spelled = record { none = refl; more = λ x xs. refl }

  -- results are contents
  pub results_seen : (cs : List Content) → contents_words n (content_views cs) ≡ results_words n (content_list cs)
  results_seen [] = refl
  results_seen (c ∷ cs) = ap (λ (t : List ℕ). codes " " ++ (content_words n (content_view c) ++ t)) (results_seen cs)

pub ruleset outcome_steps = (results_seen)
