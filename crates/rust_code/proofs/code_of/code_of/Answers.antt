use Rattle.std.proofs.Common.{◌≡◌, ◌∙◌, ℕ, ap}
use Rattle.model.specs.rules.Program.{arg_types}
use Rattle.model_code.specs.Saving.{with_moves}
use Rattle.model_code.specs.SiteTypes.{types_of}
use Rattle.core_rule_sets.specs.SiteViews.{site_views}
use Rattle.core_serialize.specs.TreeViews.{tree_view}
use Rattle.rust_code.specs.HeldViews.{hold_in}
use Rattle.rust_code.specs.SiteHolds.{term_hold}
use Rattle.rust_code.proofs.SiteHolds.{code_by_held}
use Rattle.rust_code.proofs.code_of.code_of.Goals as goal

pub returns : goal.returns
returns c = λ p are.
    let t = c.args.tables.now.term.0 in
    let sites = site_views c.args.tables.now.sites.now in
    let types = types_of p (arg_types p t) sites in
    let holds : (s : ℕ) → hold_in c.deref.result.now s ≡ term_hold p t sites s = λ s. ap (λ l. hold_in l s) c.deref.ensures.value ∙ c.in_ok-held.ensures p are s in
    let said : (s : ℕ) → hold_in c.deref-2.result.now s ≡ term_hold p t sites s = λ s. ap (λ l. hold_in l s) c.deref-2.ensures.value ∙ c.in_ok-held.ensures p are s in
    c.in_ok-with_moves.ensures types (λ s. ap (λ h. h.mode) (said s))
    ∙ ap (with_moves types) (c.in_ok-code.ensures ∙ code_by_held p t sites (hold_in c.deref.result.now) c.is_multi.result (tree_view c.args.block.now) holds (c.is_multi.ensures p are.terms))
