-- Options among the words behind a command: what each word says, one word at a time.
use Rattle.std.specs.Prelude.{ℕ, Bool, true, false, cond, ◌+◌, List, [], ◌∷◌, is_some, Some, None, Ok, Err, codes, Option, Result, nat_eq, nat_le}
use Rattle.std.specs.List.{slice_get, starts_with}
use Rattle.std.specs.Option.{ok_or, unwrap_or}
use Rattle.std.specs.Result.{result_map_both}
use Rattle.std.specs.Str.{bytes_eq}
use Rattle.text.specs.Written.{number_of}
use Rattle.options.specs.declared.Flag.{Flag}
use Rattle.options.specs.declared.Flag.TheVariants.{Instances, Bindings, Delay, Layers as LayersFlag, Room, Out, Script, Steps}
use Rattle.options.specs.declared.Command.{Command}
use Rattle.options.specs.declared.Command.TheVariants.{Host, Plan, Run}
use Rattle.options.specs.declared.Layers.{Layers}
use Rattle.options.specs.declared.Layers.TheVariants.{None as NoLayer, Verifying, VerifyingTwice}
use Rattle.options.specs.declared.Given.{Given}
use Rattle.options.specs.declared.HostOptions.{HostOptions}
use Rattle.options.specs.declared.Reason.{Reason}
use Rattle.options.specs.declared.Reason.TheVariants.{Unknown, Twice, NoValue, BadValue}
use Rattle.options.specs.declared.Fault.{Fault}

-- a word that begins with two dashes
abbrev pub option_test : List ℕ → Bool
option_test w = starts_with nat_eq w (codes "--")

-- the word of a flag
abbrev pub flag_text : Flag → List ℕ
flag_text Instances = codes "--instances"
flag_text Bindings = codes "--bindings"
flag_text Delay = codes "--delay"
flag_text LayersFlag = codes "--layers"
flag_text Room = codes "--room"
flag_text Out = codes "--out"
flag_text Script = codes "--script"
flag_text Steps = codes "--steps"

-- the command has the option
abbrev pub takes : Command → Flag → Bool
takes Host Instances = true
takes Host Bindings = true
takes Host Delay = true
takes Host LayersFlag = true
takes Host Room = false
takes Host Out = false
takes Host Script = false
takes Host Steps = false
takes Plan Instances = false
takes Plan Bindings = false
takes Plan Delay = false
takes Plan LayersFlag = false
takes Plan Room = true
takes Plan Out = true
takes Plan Script = false
takes Plan Steps = false
takes Run Instances = true
takes Run Bindings = true
takes Run Delay = true
takes Run LayersFlag = true
takes Run Room = false
takes Run Out = false
takes Run Script = true
takes Run Steps = true

-- the flag of a word
abbrev pub flag_of_text : List ℕ → Result Flag Reason
flag_of_text w =
    cond (bytes_eq w (codes "--instances")) (Ok Instances) (
    cond (bytes_eq w (codes "--bindings")) (Ok Bindings) (
    cond (bytes_eq w (codes "--delay")) (Ok Delay) (
    cond (bytes_eq w (codes "--layers")) (Ok LayersFlag) (
    cond (bytes_eq w (codes "--room")) (Ok Room) (
    cond (bytes_eq w (codes "--out")) (Ok Out) (
    cond (bytes_eq w (codes "--script")) (Ok Script) (
    cond (bytes_eq w (codes "--steps")) (Ok Steps) (Err Unknown))))))))

-- the layers of a word, from the bottom up
abbrev pub layers_of_text : List ℕ → Result Layers Reason
layers_of_text w =
    cond (bytes_eq w []) (Ok NoLayer) (
    cond (bytes_eq w (codes "v")) (Ok Verifying) (
    cond (bytes_eq w (codes "vv")) (Ok VerifyingTwice) (Err (BadValue LayersFlag))))

-- the flag has a value
abbrev pub has : Given → Flag → Bool
has g Instances = is_some g.instances
has g Bindings = is_some g.bindings
has g Delay = is_some g.delay
has g LayersFlag = is_some g.layers
has g Room = is_some g.room
has g Out = is_some g.out
has g Script = is_some g.script
has g Steps = is_some g.steps

-- the number that is the value of a flag, which the word writes
abbrev pub number_for : Flag → List ℕ → Result ℕ Reason
number_for f w = ok_or (number_of w) (BadValue f)

-- the number, if it is not above the most
abbrev pub up_to : ℕ → Option ℕ → Option ℕ
up_to most (Some n) = cond (nat_le n most) (Some n) None
up_to most None = None

-- the number of steps that the word writes
abbrev pub steps_of : List ℕ → Option ℕ
steps_of w = up_to 1048576 (number_of w)

-- the values with that of a flag, which the word at a place writes; of a path, that place
abbrev pub with_value_of : Given → Flag → ℕ → List ℕ → Result Given Reason
with_value_of g Instances place w = result_map_both (λ n. record g { instances = Some n }) (λ e. e) (number_for Instances w)
with_value_of g Bindings place w = result_map_both (λ n. record g { bindings = Some n }) (λ e. e) (number_for Bindings w)
with_value_of g Delay place w = result_map_both (λ n. record g { delay = Some n }) (λ e. e) (number_for Delay w)
with_value_of g LayersFlag place w = result_map_both (λ l. record g { layers = Some l }) (λ e. e) (layers_of_text w)
with_value_of g Room place w = result_map_both (λ n. record g { room = Some n }) (λ e. e) (number_for Room w)
with_value_of g Out place w = Ok (record g { out = Some place })
with_value_of g Script place w = Ok (record g { script = Some place })
with_value_of g Steps place w = result_map_both (λ n. record g { steps = Some n }) (λ e. e) (ok_or (steps_of w) (BadValue Steps))

-- the flag, if it has no value yet
abbrev pub unless_given : Given → Result Flag Reason → Result Flag Reason
unless_given g (Ok f) = cond (has g f) (Err (Twice f)) (Ok f)
unless_given g (Err e) = Err e

-- the flag, if the command has it
abbrev pub if_taken : Command → Result Flag Reason → Result Flag Reason
if_taken k (Ok f) = cond (takes k f) (Ok f) (Err Unknown)
if_taken k (Err e) = Err e

-- the flag of a word, if the command has it and it has no value yet
abbrev pub next_flag_of : Command → Given → List ℕ → Result Flag Reason
next_flag_of k g w = unless_given g (if_taken k (flag_of_text w))

-- what follows if the word at the place can be used
abbrev pub going_on : {A : Type 0} → ℕ → Result A Reason → (A → Result Given Fault) → Result Given Fault
going_on place (Ok x) later = later x
going_on place (Err e) later = Err (record { place = place; reason = e })

-- the values that the words from a place on give to the command, where some are given already. The flag is the one
-- whose value comes next, if there is one: else a word is an option, or it is plain. Behind the last word no value may
-- be missing.
abbrev pub given_from : Command → ℕ → Given → Option Flag → List (List ℕ) → Result Given Fault
given_from k place g None [] = Ok g
given_from k place g (Some f) [] = Err (record { place = place; reason = NoValue f })
given_from k place g None (w ∷ ws) =
    cond (option_test w) (going_on place (next_flag_of k g w) (λ f. given_from k (place + 1) g (Some f) ws)) (given_from k (place + 1) g None ws)
given_from k place g (Some f) (w ∷ ws) = going_on place (with_value_of g f place w) (λ h. given_from k (place + 1) h None ws)

-- the values that the words give to the command
abbrev pub given_by : Command → List (List ℕ) → Result Given Fault
given_by k ws = given_from k 0 (record { instances = None; bindings = None; delay = None; layers = None; room = None; out = None; script = None; steps = None }) None ws

-- the places of the plain words, from a place on; whether the first word is the value of an option
abbrev pub plain_places : ℕ → Bool → List (List ℕ) → List ℕ
plain_places place is_value [] = []
plain_places place true (w ∷ ws) = plain_places (place + 1) false ws
plain_places place false (w ∷ ws) = cond (option_test w) (plain_places (place + 1) true ws) (place ∷ plain_places (place + 1) false ws)

-- the place of the plain word with so many plain words before it
abbrev pub plain_place_of : ℕ → List (List ℕ) → Option ℕ
plain_place_of nth ws = slice_get (plain_places 0 false ws) nth

-- the options of a host, with the usual values for those that are not given
abbrev pub host_options_of : Given → HostOptions
host_options_of g =
    record {
      instances = unwrap_or g.instances 256;
      bindings = unwrap_or g.bindings 2048;
      delay = unwrap_or g.delay 0;
      layers = unwrap_or g.layers NoLayer;
    }
