-- Calls of internal extractors, for which code has no function.
use Rattle.std.specs.Prelude.{◌≡◌, ℕ, Bool, true, false, List, [], ◌∷◌, ◌++◌, Option, Some, None, map, slice_get, if◌then◌else◌, codes}
use Rattle.std.specs.List.{flat_map}
use Rattle.model.specs.lists.Signatures.{text_of}
use Rattle.model.specs.lists.Tables.{ExtractorEntry, internal_extractor, external_extractor, TermKindEntry, variant_term, struct_term, declared_term, TermEntry}
use Rattle.model.specs.sites.Sites.{Site, extractor_site}
use Rattle.core_rule_sets.specs.SiteViews.{site_views}
use Rattle.cranelift_isle.specs.declared.lower.LoweredTerm.{LoweredTerm}

abbrev pub inside_extractor : Option ExtractorEntry → Bool
inside_extractor None = false
inside_extractor (Some (internal_extractor template)) = true
inside_extractor (Some (external_extractor name infallible at)) = false

abbrev pub inside_kind : TermKindEntry → Bool
inside_kind (variant_term variant) = false
inside_kind struct_term = false
inside_kind (declared_term flags made taken) = inside_extractor taken

-- the name of a term with an internal extractor
abbrev pub term_inside : Option TermEntry → Option ℕ
term_inside None = None
term_inside (Some e) = if inside_kind e.kind then Some e.name else None

-- the name of the internal extractor that a site calls
abbrev pub called_inside : List TermEntry → Site → Option ℕ
called_inside terms (extractor_site t source) = term_inside (slice_get terms t)
called_inside terms _ = None

abbrev pub this_or : Option ℕ → Option ℕ → Option ℕ
this_or None rest = rest
this_or (Some name) rest = Some name

-- and of the first that some sites call
abbrev pub first_inside : List TermEntry → List Site → Option ℕ
first_inside terms [] = None
first_inside terms (s ∷ ss) = this_or (called_inside terms s) (first_inside terms ss)

-- the sites of lowered terms, one term's behind the other's
abbrev pub sites_of : LoweredTerm → List Site
sites_of t = site_views t.rules.bindings.items

abbrev pub lowered_sites : List LoweredTerm → List Site
lowered_sites ts = flat_map sites_of ts

abbrev pub inside_text : List ℕ → List ℕ
inside_text name = codes "the internal extractor `" ++ (name ++ codes "` isn't expanded")

-- which of them isn't expanded
abbrev pub TellsInside : List (List ℕ) → List TermEntry → List Site → List ℕ → Type 0
TellsInside names terms sites text = (name : ℕ) × (first_inside terms sites ≡ Some name) × (text ≡ inside_text (text_of names name))
