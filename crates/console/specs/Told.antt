-- What a call that may be refused, and may run out of memory, tells.
use Rattle.std.specs.Prelude.{◌≡◌, Bool, true, false, Ok, Err, Result}
use Rattle.std.specs.Bool.{⊤}
use Rattle.console.specs.declared.failure.Failure.{Failure}
use Rattle.console.specs.declared.failure.Failure.TheVariants.{Refused, Memory}

-- P of the value, or Q of the refusal; where memory has run out nothing is said
abbrev pub IfTold : {T E : Type 0} → Result T (Failure E) → (T → Type 0) → (E → Type 0) → Type 0
IfTold (Ok x) P Q = P x
IfTold (Err (Refused e)) P Q = Q e
IfTold (Err (Memory e)) P Q = ⊤

-- what is shown of the value, or of the refusal, is what r says
abbrev pub Told : {T E X Y : Type 0} → (T → X) → (E → Y) → Result T (Failure E) → Result X Y → Type 0
Told shown_value shown_refusal result r = IfTold result (λ x. Ok (shown_value x) ≡ r) (λ e. Err (shown_refusal e) ≡ r)

-- P of the refusal, if there is one
abbrev pub ForRefused : {E : Type 0} → Failure E → (E → Type 0) → Type 0
ForRefused (Refused e) P = P e
ForRefused (Memory e) P = ⊤

-- the refusal is one that R relates to the first, and a failure of memory stays
abbrev pub IsMapped : {E G : Type 0} → Failure E → (E → G → Type 0) → Failure G → Type 0
IsMapped (Refused e) R (Refused g) = R e g
IsMapped (Refused e) R (Memory a) = ⊥
IsMapped (Memory a) R (Refused g) = ⊥
IsMapped (Memory a) R (Memory b) = b ≡ a

-- the text, as that of a refusal or as an answer
abbrev pub report : {X : Type 0} → Bool → X → Result X X
report true text = Err text
report false text = Ok text
