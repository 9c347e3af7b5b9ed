-- Marks that go on to what marked sites are made of.
use Rattle.std.specs.Prelude.{ℕ, zero, suc, Bool, ◌&&◌, ◌||◌, List, slice_get}
use Rattle.model.specs.sites.Sites.{Site, sources_at}
use Rattle.model.specs.trees.Places.{is_in}
use Rattle.spec_steps.specs.Demands.{is_marked}

-- which numbers are marked
abbrev pub marks : List Bool → ℕ → Bool
marks made n = is_marked (slice_get made n)

-- what a site is made of is marked where the site is
abbrev pub marked_below : List Site → ℕ → (ℕ → Bool) → ℕ → Bool
marked_below sites s f n = f n || (f s && is_in n (sources_at sites s))

-- so from so many sites down
abbrev pub spread : List Site → ℕ → (ℕ → Bool) → ℕ → Bool
spread sites zero f = f
spread sites (suc s) f = spread sites s (marked_below sites s f)
