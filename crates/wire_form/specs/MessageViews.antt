-- What the messages of the code stand for.
use Rattle.session_meaning.specs.Messages as meant
use Rattle.wire_form.specs.declared.message.Request.{Request}
use Rattle.wire_form.specs.declared.message.Request.TheVariants.{Hello, Call, Go, Bye}
use Rattle.wire_form.specs.declared.message.Reply.{Reply}
use Rattle.wire_form.specs.declared.message.Reply.TheVariants.{Welcome, Proof, Stale, Refused, Closed}

abbrev pub request_meant : Request → meant.Request
request_meant (Hello session program kept state) = meant.Hello session program.0 kept state
request_meant (Call session role fuel argument) = meant.Call session role fuel argument
request_meant (Go rounds) = meant.Go rounds
request_meant (Bye session) = meant.Bye session

abbrev pub reply_meant : Reply → meant.Reply
reply_meant (Welcome session) = meant.Welcome session
reply_meant (Proof session frames) = meant.Proof session frames
reply_meant (Stale session state) = meant.Stale session state
reply_meant (Refused session cause) = meant.Refused session cause
reply_meant (Closed session cause) = meant.Closed session cause
