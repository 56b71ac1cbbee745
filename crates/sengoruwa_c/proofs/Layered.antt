-- Runs on a fresh cloud by the number of layers. Assumes nothing.
use Rattle.std.proofs.Common.{◌≡◌, ℕ, List, IfOk, Result, ap, arith}
use Rattle.std.proofs.lemmas.Result.{IfOk-weaker}
use Rattle.model.specs.declared.order.Order.{Order}
use Rattle.model.specs.Universe.{Universe}
use Rattle.hosts.specs.Answers.{Answer}
use Rattle.checking.specs.declared.refusal.CheckRefusal.{CheckRefusal}
use Rattle.cloud.specs.declared.state.Cloud.{Cloud}
use Rattle.cloud.specs.Cloud.{CloudTakes, cloud_of, cloud_service, cloud_situation}
use Rattle.layers.specs.Verifying.{Relays}
use Rattle.sengoruwa_c.specs.declared.records.Ended.{Ended}
use Rattle.sengoruwa_c.specs.declared.records.Settings.{Settings}
use Rattle.sengoruwa_c.specs.Runs.{RanOn}
use Rattle.sengoruwa_c.specs.Calls.{RanUnder, TakesUnder, TakesUnderTwo, cloud_opened, service_under, service_under_two}
use Rattle.sengoruwa_c.proofs.Lowered.{ran_below}

module _ (u : Universe) (c : Settings) (xs before after standing left : List ℕ) (r : Result Ended CheckRefusal) where
  -- with no layer
  pub ran_none : (h k : Cloud) → c.layers ≡ 0 → cloud_of h ≡ cloud_opened u c →
      IfOk r (λ e. RanOn cloud_situation cloud_service CloudTakes xs h k before after standing left e) →
      IfOk r (λ e. RanUnder u c xs before after standing left e)
  ran_none h k layers opened =
      IfOk-weaker r _ _ (λ e ran. record {
        none = λ is. (h, k, opened, ran);
        one = λ is. absurd (omega arith);
        two = λ is. absurd (omega arith);
      })

  module _ {K : Type 0} (below : K → Cloud) where
    -- with one, where `below` tells the cloud below a layer
    pub ran_one : (h k : K) → c.layers ≡ 1 → cloud_of (below h) ≡ cloud_opened u c →
        IfOk r (λ e. RanOn (λ k. cloud_situation (below k)) (λ k. service_under (below k)) (λ o h k a. TakesUnder o (below h) (below k) a) xs h k before after standing left e) →
        IfOk r (λ e. RanUnder u c xs before after standing left e)
    ran_one h k layers opened =
        IfOk-weaker r _ _ (λ e ran. record {
          none = λ is. absurd (omega arith);
          one = λ is. (below h, below k, opened, ran_below _ _ _ below _ (λ o h k a t. t) xs h k before after standing left e ran);
          two = λ is. absurd (omega arith);
        })

    -- what the upper of two layers does, told of the cloud below both
    takes_two : {L : Type 0} (above : L → K) (o : Order) (h k : L) (a : Answer) →
        Relays (λ k. cloud_situation (below k)) (λ k. service_under (below k)) (λ o h k a. TakesUnder o (below h) (below k) a) o (above h) (above k) a →
        TakesUnderTwo o (below (above h)) (below (above k)) a
    takes_two above o h k a t = record { stops = λ e. let w = t.stops e in (ap below w.0, w.1); passes = t.passes }

    -- with two, where `above` tells the layer below a layer
    pub ran_two : {L : Type 0} (above : L → K) (h k : L) → (c.layers ≡ 0 → ⊥) → (c.layers ≡ 1 → ⊥) → cloud_of (below (above h)) ≡ cloud_opened u c →
        IfOk r (λ e. RanOn (λ k. cloud_situation (below (above k))) (λ k. service_under_two (below (above k)))
        (λ o h k a. Relays (λ k. cloud_situation (below k)) (λ k. service_under (below k)) (λ o h k a. TakesUnder o (below h) (below k) a) o (above h) (above k) a)
        xs h k before after standing left e) →
        IfOk r (λ e. RanUnder u c xs before after standing left e)
    ran_two above h k some more opened =
        IfOk-weaker r _ _ (λ e ran. record {
          none = λ is. absurd (some is);
          one = λ is. absurd (more is);
          two = λ is. (below (above h), below (above k), opened, ran_below _ _ _ (λ k. below (above k)) _ (takes_two above) xs h k before after standing left e ran);
        })
