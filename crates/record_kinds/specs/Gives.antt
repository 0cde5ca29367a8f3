-- What a call that appends a reply's data gives.
use Rattle.std.specs.Prelude.{◌≡◌, ℕ, List, ◌++◌, Result, Ok, Err}
use Rattle.two_wire.specs.Codes.{success}
use Rattle.record_base.specs.declared.message.Answered.{Answered}
use Rattle.record_kinds.specs.Replies.{refused}

-- the answer: its data stand behind the bytes that were there, or its code is given and nothing was appended
abbrev pub GivesReply : {A : Type 0} → Result A ℕ → List ℕ → List ℕ → Answered → Type 0
GivesReply (Ok _) old new answer = (answer.code ≡ success) × (new ≡ old ++ answer.body)
GivesReply (Err code) old new answer = (answer ≡ refused code) × (new ≡ old)

-- the answer: its data stand behind those of this buffer
abbrev pub AppendsReply : {A B : Type 0} → (B → List ℕ) → Result A ℕ → B → B → Answered → Type 0
AppendsReply bytes result before after answer = GivesReply result (bytes before) (bytes after) answer

-- the answer has no data, or its code is given
abbrev pub AnswersCode : {A : Type 0} → Result A ℕ → Answered → Type 0
AnswersCode result answer = (bytes : List ℕ) → GivesReply result bytes bytes answer
