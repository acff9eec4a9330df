-- What a rule is given with a frame, as the book sees it.
use Rattle.groups.specs.Stocked.{commits_in}
use Rattle.rules.specs.Message.{Message}
use Rattle.rules.specs.Book.{Terms, Call}
use Rattle.rules.specs.Given.{terms, call}
use Rattle.message.specs.View.{message_of}
use Rattle.message.specs.declared.received.Heard.{Heard}

abbrev pub message_in : Heard → Message
message_in h = message_of h.body.now h.view

abbrev pub terms_in : Heard → Terms
terms_in h = terms h.given h.stock.groups.now

abbrev pub call_in : Heard → Call
call_in h = call h.given (commits_in h.stock)
