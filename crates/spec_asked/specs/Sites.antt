-- What the numbers of a set's sites stand for.
use Rattle.std.specs.Prelude.{ℕ, List, Option, Some, None, slice_get}
use Rattle.model.specs.sites.Sites.{Site, SiteTerm, struct_field, no_site, unfold_site}

-- a number past the sites stands for what is no site's, for each number another
abbrev pub site_or : List Site → ℕ → Option Site → SiteTerm
site_or sites n None = struct_field no_site n
site_or sites n (Some b) = unfold_site sites n

-- so no two numbers stand for one tree
abbrev pub site_of : List Site → ℕ → SiteTerm
site_of sites n = site_or sites n (slice_get sites n)
