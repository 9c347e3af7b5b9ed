-- Terms of the code as entries of the term table.
use Rattle.std.proofs.Common.{◌≡◌, ℕ, List, slice_get, option_map}
use Rattle.std.proofs.lemmas.Option.{slice_get-map}
use Rattle.core_terms.specs.declared.term.Term.{Term}
use Rattle.core_terms.specs.TermViews.{term_view, term_views}

pub entry_at : (ts : List Term) (n : ℕ) → slice_get (term_views ts) n ≡ option_map term_view (slice_get ts n)
entry_at ts n = slice_get-map term_view ts n
