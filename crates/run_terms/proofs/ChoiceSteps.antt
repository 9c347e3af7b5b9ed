-- A rule holds where its arguments do and then its if-lets; the rules of a term, from one on.
use Rattle.std.proofs.Common.{◌≡◌, ◌==◌, ℕ, Bool, true, false, List, [], map, Option, None, filter, sym, ap, ◌∙◌}
use Rattle.model.specs.rules.Values as Values
use Rattle.model.specs.rules.Outcome.{then_option}
use Rattle.model.specs.rules.Typed.{TypedRule}
use Rattle.model.specs.rules.Matching.{Vars, each_holds, iflets_hold, matches}
use Rattle.model.specs.rules.Meaning.{Meaning}
use Rattle.model.specs.rules.Choice.{chosen}
use Rattle.core_typed.specs.declared.rules.IfLet.{IfLet}
use Rattle.core_typed.specs.declared.rules.Rule.{Rule}
use Rattle.core_typed.specs.declared.patterns.Pattern.{Pattern}
use Rattle.core_typed.specs.PatternViews.{pattern_parts, pattern_views}
use Rattle.core_typed.specs.RuleViews.{iflet_view, rule_view, rule_views}
use Rattle.run_terms.specs.declared.values.Value.{Value}
use Rattle.run_terms.specs.RunViews.{arg_views}
use Rattle.run_terms.specs.ValueViews.{value_views}
use Rattle.model.specs.rules.Program.{Program}
use Rattle.run_terms.specs.SourceViews.{if_held}
use Rattle.run_terms.proofs.PatternSteps.{args_as_parts, held, not_held}

module _ (program : Program) (m : Meaning) where
  -- a rule that matches, and one that doesn't
  abbrev then_iflets : Rule → Option Vars → Option Vars
  then_iflets r o = then_option o (λ e. iflets_hold program m (map iflet_view r.iflets.items) e)

  abbrev args_held : List Pattern → List Value → Vars → Option Vars
  args_held qs vs vars = each_holds program m (pattern_parts (pattern_views qs)) (value_views vs) vars

  matches_is : (r : Rule) (qs : List Pattern) (vs : List Value) (old : Vars) → qs ≡ r.args.items → old ≡ [] → matches program m (rule_view r) (arg_views vs) ≡ then_iflets r (args_held qs vs old)
  matches_is r qs vs old e n =
      sym (ap (then_iflets r) (ap (args_held qs vs) n ∙ ap (λ l. args_held l vs []) e ∙ args_as_parts program m r.args.items vs []))

  pub no_args : (r : Rule) (qs : List Pattern) (vs : List Value) (old vars : Vars) (b : Bool) → qs ≡ r.args.items → old ≡ [] → if_held b vars ≡ args_held qs vs old → b ≡ false → None ≡ matches program m (rule_view r) (arg_views vs)
  no_args r qs vs old vars b e n h t = ap (then_iflets r) (not_held b vars (args_held qs vs old) h t) ∙ sym (matches_is r qs vs old e n)

  pub with_iflets : (r : Rule) (qs : List Pattern) (is : List IfLet) (vs : List Value) (old vars : Vars) (b : Bool) (o : Option Vars) → qs ≡ r.args.items → is ≡ r.iflets.items → old ≡ [] → if_held b vars ≡ args_held qs vs old → b ≡ true
      → o ≡ iflets_hold program m (map iflet_view is) vars → o ≡ matches program m (rule_view r) (arg_views vs)
  with_iflets r qs is vs old vars b o e d n h t is_o =
      is_o ∙ ap (λ l. iflets_hold program m (map iflet_view l) vars) d ∙ ap (then_iflets r) (held b vars (args_held qs vs old) h t) ∙ sym (matches_is r qs vs old e n)

  -- rules from one on
  module _ (t : ℕ) (args : List Values.Value) where
    abbrev pub chosen_from : List Rule → Option TypedRule
    chosen_from rs = chosen program m (filter (λ (r : TypedRule). r.root_term == t) (rule_views rs)) args
