-- What does a request come to? (LSP 3.17: `initialize` comes first, and once; behind `shutdown` comes none.)
use Rattle.std.specs.Prelude.{if◌then◌else◌, ℕ, List, [], ◌∷◌, Option, Some, None, codes}
use Rattle.std.specs.Str.{bytes_eq}
use Rattle.app_messages.specs.declared.refusals.Refusal.TheVariants.{NotInitialized, ShutDown, InitializedTwice, NoMethod}
use Rattle.app_messages.specs.declared.protocol.Question.{Question}
use Rattle.app_messages.specs.declared.protocol.Question.TheVariants.{Actions, Callees, Callers, Calls, Colours, Completion, Definition, Folds, Highlights, Hints, Hover, Layout, LayoutIn, Lenses, Outline, Prepare, References, Rename, Selections, Signature, Symbols}
use Rattle.app_messages.specs.declared.protocol.Reply.{Reply}
use Rattle.app_messages.specs.declared.protocol.Reply.TheVariants as R
use Rattle.app_messages.specs.declared.protocol.ServerStage.{ServerStage}
use Rattle.app_messages.specs.declared.protocol.ServerStage.TheVariants as S

-- the methods of requests about a place, and what they ask
abbrev pub of_places : List (List ℕ × Question)
of_places =
    (codes "textDocument/hover", Hover) ∷
    (codes "textDocument/definition", Definition) ∷
    (codes "textDocument/references", References) ∷
    (codes "textDocument/documentHighlight", Highlights) ∷
    (codes "textDocument/completion", Completion) ∷
    (codes "textDocument/signatureHelp", Signature) ∷
    (codes "textDocument/prepareRename", Prepare) ∷ []

-- the methods of requests about a part of a document, or an item, and what they ask
abbrev pub of_parts : List (List ℕ × Question)
of_parts =
    (codes "textDocument/rename", Rename) ∷
    (codes "textDocument/selectionRange", Selections) ∷
    (codes "textDocument/inlayHint", Hints) ∷
    (codes "textDocument/rangeFormatting", LayoutIn) ∷
    (codes "textDocument/codeAction", Actions) ∷
    (codes "textDocument/prepareCallHierarchy", Calls) ∷
    (codes "callHierarchy/incomingCalls", Callers) ∷ []

-- the methods of requests about all of a document, or of all of them, and what they ask
abbrev pub of_files : List (List ℕ × Question)
of_files =
    (codes "callHierarchy/outgoingCalls", Callees) ∷
    (codes "textDocument/formatting", Layout) ∷
    (codes "textDocument/documentSymbol", Outline) ∷
    (codes "textDocument/foldingRange", Folds) ∷
    (codes "textDocument/semanticTokens/full", Colours) ∷
    (codes "textDocument/codeLens", Lenses) ∷
    (codes "workspace/symbol", Symbols) ∷ []

-- what the row of a method says, where there is one
abbrev pub asked : List ℕ → List (List ℕ × Question) → Option Question
asked method [] = None
asked method ((name, what) ∷ rows) = if bytes_eq method name then Some what else asked method rows

abbrev pub or_else : Option Question → Option Question → Option Question
or_else (Some what) other = Some what
or_else None other = other

-- what a request asks, if there is such a request
unfoldable pub question : List ℕ → Option Question
question method = or_else (asked method of_places) (or_else (asked method of_parts) (asked method of_files))

abbrev pub reply_asked : Option Question → Reply
reply_asked (Some what) = R.Ask what
reply_asked None = R.Refuse NoMethod

-- what a request comes to at a stage
abbrev pub reply : ServerStage → List ℕ → Reply
reply S.New method = if bytes_eq method (codes "initialize") then R.Begin else R.Refuse NotInitialized
reply S.Open method =
    if bytes_eq method (codes "initialize") then R.Refuse InitializedTwice
    else if bytes_eq method (codes "shutdown") then R.Shut
    else reply_asked (question method)
reply S.Shut method = R.Refuse ShutDown
