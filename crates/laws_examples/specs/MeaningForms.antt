-- Short forms of values, meanings and outcomes: all values are of type u8.
use Rattle.std.specs.Prelude.{ℤ, List, [], ◌∷◌}
use Rattle.model.specs.rules.Values.{Value, atom, Values, no_value, value_and}
use Rattle.model.specs.rules.Meaning.{Content, one, just, Contents, no_content, content_and, Literal, int_literal, Meaning, Maps, finite}
use Rattle.model.specs.rules.Outcome.{ended, Outcome}
use Rattle.model.specs.rules.Program.{Program}
use Rattle.model.specs.sites.Serves.{Serves}

-- a value, alone and as the arguments of a call
abbrev pub v : ℤ → Value
v z = atom 1 z

abbrev pub given : ℤ → List Value
given z = v z ∷ []

abbrev pub alone : ℤ → Values
alone z = value_and (v z) no_value

-- an answer
abbrev pub just_number : ℤ → Content
just_number z = just (one (v z))

-- a literal has its own value
abbrev pub literal : ℤ → Literal × Value
literal z = (int_literal z 1, v z)

-- maps with literals alone, and without entries
abbrev pub of_literals : List (Literal × Value) → Maps
of_literals literals = record { literals = literals; constants = []; extractor_calls = []; pure_calls = []; impure_calls = [] }

abbrev pub no_entries : Maps
no_entries = of_literals []

-- a meaning with literals and no calls, and one with nothing
abbrev pub mute : List (Literal × Value) → Meaning
mute literals = finite (of_literals literals)

abbrev pub blank : Meaning
blank = mute []

-- these values as a call's answers, and as results
abbrev pub all_of : List ℤ → Contents
all_of [] = no_content
all_of (z ∷ zs) = content_and (one (v z)) (all_of zs)

abbrev pub each : List ℤ → List Content
each [] = []
each (z ∷ zs) = one (v z) ∷ each zs

-- one result, without calls
abbrev pub ends_with : Content → Outcome
ends_with c = record { calls = []; results = c ∷ []; ending = ended }

abbrev pub answers : ℤ → Outcome
answers z = ends_with (one (v z))

-- on an argument the meaning lacks something that the rules ask
abbrev pub DoesNotServe : Program → Meaning → ℤ → Type 0
DoesNotServe p m z = Serves p m (given z) p.rules → ⊥
