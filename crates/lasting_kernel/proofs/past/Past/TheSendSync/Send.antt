-- The past goes to another thread, since it owns nothing.
use denote.Exit.{Exit, hidden, leaves, unchanged, under}
use denote.Struct.Struct.{exits_of}
use denote.Struct.Owning.{fields, shape, to}
use denote.Param.Send.{AllSend, IsSend, Quiet, owning_send, sendable, struct_send}
use Rattle.lasting_kernel.specs.contracts.past.Past.{the_row, the_type}

-- what is left over a value is that of its fields
quiet : {D X : Type 0} (to : D → X) (e : Exit X) → Quiet e → Quiet (hidden (under to e))
quiet to unchanged q = λ x w. tt
quiet to (leaves L l S s r₀) q = λ d. q (to d)

pub send : IsSend the_row
send =
    let all : AllSend (fields the_type) = (search sendable, tt) in
    owning_send the_type all (λ d. tt)
    (λ k. quiet (to the_type) (exits_of k (fields the_type)) ((struct_send (shape the_type) all).leaving k))
