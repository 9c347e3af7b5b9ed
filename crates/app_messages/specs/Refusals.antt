-- Which number has an error? (JSON-RPC 2.0; LSP 3.17, `ErrorCodes` and `LSPErrorCodes`)
use Rattle.std.specs.Prelude.{ℕ, List, codes}
use Rattle.app_messages.specs.declared.refusals.Refusal.{Refusal}
use Rattle.app_messages.specs.declared.refusals.Refusal.TheVariants.{Memory, NoHead, NoJson, NoMessage, NoMethod, NotInitialized, InitializedTwice, ShutDown, Cancelled, NoParameter, NotOpen, Outside, NoName, Taken, NotRenamed, Unread, Unsure}

-- as text
abbrev pub number_of : Refusal → List ℕ
number_of NoJson = codes "-32700"  -- ParseError
number_of NoHead = codes "-32600"  -- InvalidRequest
number_of NoMessage = codes "-32600"
number_of InitializedTwice = codes "-32600"
number_of ShutDown = codes "-32600"
number_of NoMethod = codes "-32601"  -- MethodNotFound
number_of NoParameter = codes "-32602"  -- InvalidParams
number_of NotOpen = codes "-32602"
number_of Outside = codes "-32602"
number_of Memory = codes "-32603"  -- InternalError
number_of NotInitialized = codes "-32002"  -- ServerNotInitialized
number_of Cancelled = codes "-32800"  -- RequestCancelled
number_of NoName = codes "-32803"  -- RequestFailed
number_of Taken = codes "-32803"
number_of NotRenamed = codes "-32803"
number_of Unread = codes "-32803"
number_of Unsure = codes "-32803"
