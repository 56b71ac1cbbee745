-- The offences of an order against legality, by rising number: the first that applies.
use Rattle.std.specs.Prelude.{ℕ, Bool, cond, not, ◌&&◌, ◌||◌, Some, None, Option, ◌==◌, nat_le, nat_lt}
use Rattle.model.specs.declared.order.Order.{Order}
use Rattle.model.specs.declared.order.Order.TheVariants.{Create, Bind, Change, Unbind, Delete}
use Rattle.model.specs.Search.{any}
use Rattle.model.specs.Config.{Config, stands, passes, ever_provides, ever_requires}
use Rattle.hosts.specs.declared.refusal.Offence.{Offence}
use Rattle.hosts.specs.declared.refusal.Offence.TheVariants.{OutOfRange, Standing, NotStanding, Unfit, Bound, Unbound, NoSuccessor, Provider}
use Rattle.hosts.specs.Survey.{Situation}

-- refused with e if the test holds, else by what follows
abbrev pub refused_if : {E : Type 0} → Bool → E → Option E → Option E
refused_if b e later = cond b (Some e) later

-- the instance stands
abbrev pub standing : Situation → ℕ → Bool
standing s z = stands (s.config.inst z)

-- create: out of range, or z stands
abbrev pub create_offence_of : Situation → ℕ → ℕ → Option Offence
create_offence_of s z t =
    refused_if (nat_lt 255 z || nat_le s.universe.types t) OutOfRange
    (refused_if (standing s z) Standing
    None)

-- bind and unbind: an end, or the port, is out of range
abbrev pub out_of_range : Situation → ℕ → ℕ → ℕ → Bool
out_of_range s p x y = nat_lt 255 x || nat_lt 255 y || nat_le s.universe.ports p

-- bind and unbind: an end does not stand
abbrev pub lacks_end : Situation → ℕ → ℕ → Bool
lacks_end s x y = not (standing s x && standing s y)

-- bind: the ends are one, or their types never have the port
abbrev pub unfit : Situation → ℕ → ℕ → ℕ → Bool
unfit s p x y =
    (x == y) || not (ever_provides s.universe p (s.config.inst x)) || not (ever_requires s.universe p (s.config.inst y))

abbrev pub bind_offence_of : Situation → ℕ → ℕ → ℕ → Option Offence
bind_offence_of s p x y =
    refused_if (out_of_range s p x y) OutOfRange
    (refused_if (lacks_end s x y) NotStanding
    (refused_if (unfit s p x y) Unfit
    (refused_if (s.config.bound p x y) Bound
    None)))

-- q is a successor of the state of z
abbrev pub follows : Situation → ℕ → ℕ → Bool
follows s z q = passes (s.config.inst z) (λ h. s.universe.next h.kind h.state q)

abbrev pub change_offence_of : Situation → ℕ → ℕ → Option Offence
change_offence_of s z q =
    refused_if (nat_lt 255 z || nat_lt 7 q) OutOfRange
    (refused_if (not (standing s z)) NotStanding
    (refused_if (not (follows s z q)) NoSuccessor
    None))

abbrev pub unbind_offence_of : Situation → ℕ → ℕ → ℕ → Option Offence
unbind_offence_of s p x y =
    refused_if (out_of_range s p x y) OutOfRange
    (refused_if (lacks_end s x y) NotStanding
    (refused_if (not (s.config.bound p x y)) Unbound
    None))

-- z is the provider of some binding; by the law of surveys all bindings are among these
unfoldable pub provider_test : Config → ℕ → Bool
provider_test c z = any (λ p. any (c.bound p z) 256) 32

abbrev pub delete_offence_of : Situation → ℕ → Option Offence
delete_offence_of s z =
    refused_if (nat_lt 255 z) OutOfRange
    (refused_if (not (standing s z)) NotStanding
    (refused_if (provider_test s.config z) Provider
    None))

-- the first offence of the order, if there is one
abbrev pub offence : Order → Situation → Option Offence
offence (Create z t) s = create_offence_of s z t
offence (Bind b) s = bind_offence_of s b.port b.provider b.requirer
offence (Change z q) s = change_offence_of s z q
offence (Unbind b) s = unbind_offence_of s b.port b.provider b.requirer
offence (Delete z) s = delete_offence_of s z
