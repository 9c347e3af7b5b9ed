-- What a term table shows to whom it is handed.
use Rattle.model.specs.claims.Environments.{TermsShown}
use Rattle.core_terms.specs.declared.term_table.TermTable.{TermTable}
use Rattle.core_terms.specs.TermTables.{term_at}
use Rattle.core_terms.specs.TermViews.{term_views}
use Rattle.core_terms.specs.Converting.{converter_at}

-- its terms, the term of the number of each name, and the term that converts each type into another one
abbrev pub shown_by : TermTable → TermsShown
shown_by table = record { terms = term_views table.terms.items; term_of = term_at table; converter_of = converter_at table }
