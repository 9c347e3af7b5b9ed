-- What the numbers of sites stand for.
use Rattle.std.specs.Prelude.{◌≡◌, ℕ, List, Some, slice_get}
use Rattle.model.specs.sites.Sites.{layer}
use Rattle.core_rule_sets.specs.declared.trie_again.Binding.{Binding}
use Rattle.core_rule_sets.specs.SiteViews.{site_view}
use Rattle.spec_cases.specs.Namings.{Naming}

-- a number stands for what is bound there, one layer of it
abbrev pub IsBound : Naming → ℕ → Binding → Type 0
IsBound v n b = v.site n ≡ layer v.site (site_view b)

abbrev pub AreSites : Naming → List Binding → Type 0
AreSites v bs = (n : ℕ) (b : Binding) → slice_get bs n ≡ Some b → IsBound v n b
