-- What is printed of orders that a host was given.
use Rattle.std.specs.Prelude.{◌≡◌, ℕ, Bool, true, false, not, List, [], ◌∷◌, ◌++◌, Ok, Err, codes, decimal}
use Rattle.model.specs.declared.order.Order.{Order}
use Rattle.model.specs.Bounded.{any_gap}
use Rattle.hosts.specs.Answers.{Answer, Gives}
use Rattle.hosts.specs.Service.{Service}
use Rattle.hosts.specs.Refusals.{refusal_text}
use Rattle.hosts.specs.Loads.{load_text}
use Rattle.hosts.specs.Survey.{Situation, bindings_of, instances_of}
use Rattle.model.specs.Written.{written}
use Rattle.hosts.specs.declared.load.Load.{Load}

-- the end of a text line
abbrev pub newline : List ℕ
newline = 10 ∷ []

-- a host's answer: done, or the number of the refusal and the height of the layer that gave it
abbrev pub answer_text_of : Answer → List ℕ
answer_text_of (Ok x) = codes "done"
answer_text_of (Err e) = codes "refused " ++ refusal_text e

-- the line of an order: its written form, the answer, then waits and allowances
abbrev pub order_line_of : Order → Answer → Load → List ℕ
order_line_of o a l = written o ++ (codes ": " ++ (answer_text_of a ++ (codes " " ++ (load_text l ++ newline))))

abbrev pub yes_no_of : Bool → List ℕ
yes_no_of true = codes "yes"
yes_no_of false = codes "no"

-- how much stands, and whether it is gap-free
abbrev pub stands_text_of : ℕ → ℕ → Bool → List ℕ
stands_text_of instances bindings gap_free =
    codes "instances " ++ (decimal instances ++ (codes ", bindings " ++ (decimal bindings ++ (codes ", gap-free " ++ yes_no_of gap_free))))

-- the last line: what stands
abbrev pub end_line_of : ℕ → ℕ → Bool → List ℕ
end_line_of instances bindings gap_free = stands_text_of instances bindings gap_free ++ newline

-- the same for what a survey tells
abbrev pub survey_line : Situation → List ℕ
survey_line s = end_line_of (instances_of s) (bindings_of s) (not (any_gap 256 s.universe s.config))

-- s and v tell what a host means, and `does` just what it does
module _ {H : Type 0} (s : H → Situation) (v : H → Service) (does : Order → H → H → Answer → Type 0) where
  -- the text tells of the order: the host h gave some answer and became k, by the relation of hosts and by its `does`,
  -- and the text is the order's line with that answer, and with the waits and the allowances that the host then had
  pub record Told (o : Order) (h k : H) (text : List ℕ) : Type 0 where
    pub answer : Answer
    pub answered : Gives s v o h k answer
    pub exact : does o h k answer
    pub line : text ≡ order_line_of o answer (v k).load

  -- the text tells of the orders, one after the other
  abbrev pub ToldAll : List Order → H → H → List ℕ → Type 0
  ToldAll [] h k text = (k ≡ h) × (text ≡ [])
  ToldAll (o ∷ os) h k text =
      (next : H) × (line : List ℕ) × (rest : List ℕ) × Told o h next line × ToldAll os next k rest × (text ≡ line ++ rest)

  -- the text tells of the orders, and then of what stands
  abbrev pub Reported : List Order → H → H → List ℕ → Type 0
  Reported os h k text = (lines : List ℕ) × ToldAll os h k lines × (text ≡ lines ++ survey_line (s k))
