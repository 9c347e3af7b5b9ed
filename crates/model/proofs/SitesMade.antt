-- Lists of site terms: what they have, and that sites that are made stand once.
use Rattle.std.proofs.Common.{◌≡◌, true, List, [], ◌∷◌, ◌++◌, inl, inr, arith}
use Rattle.std.proofs.lemmas.Grind.{common_steps}
use Rattle.std.proofs.lemmas.Bool.{false≢true}
use Rattle.model.specs.lists.Names.{IsDistinct}
use Rattle.model.specs.sites.Sites.{SiteTerm}
use Rattle.model.specs.visits.Demands.{site_term_eq, has_site, with_sites}
use Rattle.model.proofs.Elements.{In, in_slice, or_split, or_left, or_right}
use Rattle.model.proofs.SameSites.{term_means, same_term}
use Rattle.model.proofs.Positions.{distinct_push}

pub in_has : (ts : List SiteTerm) (s : SiteTerm) → In ts s → has_site ts s ≡ true
in_has [] s i = absurd i
in_has (t ∷ ts) s (inl e) = or_left (site_term_eq t s) (has_site ts s) (same_term t s e)
in_has (t ∷ ts) s (inr i) = or_right (site_term_eq t s) (has_site ts s) (in_has ts s i)

pub has_in : (ts : List SiteTerm) (s : SiteTerm) → has_site ts s ≡ true → In ts s
has_in [] s h = absurd (false≢true h)
has_in (t ∷ ts) s h = elim (or_split (site_term_eq t s) (has_site ts s) h) [ inl e ↦ inl (term_means t s e) | inr r ↦ inr (has_in ts s r) ]

-- sites that are made stand once
pub once_with : (ts xs : List SiteTerm) → IsDistinct ts → IsDistinct (with_sites ts xs)
once_with ts (x ∷ xs) d = grind (arith, common_steps, once_with ts xs d, once_with (ts ++ x ∷ []) xs, distinct_push ts x d, in_has ts x, in_slice ts, distinct_push, in_has, in_slice)
once_with ts [] d = d
