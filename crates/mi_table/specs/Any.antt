-- The space of one of the metrics.
use Rattle.mi_base.specs.Space.{MetricSpace, IsMetric, l1_metric, max_metric, hamming_metric, table_metric}
use Rattle.mi_metric.specs.Laws.{l1_is_metric, max_is_metric, hamming_is_metric}
use Rattle.mi_table.specs.declared.any.AnyMetric.{AnyMetric}
use Rattle.mi_table.specs.declared.any.AnyMetric.TheVariants.{L1, Max, Hamming, Table}
use Rattle.mi_table.specs.Laws.{table_is_metric}

abbrev pub any_space : AnyMetric → MetricSpace
any_space (L1 m) = l1_metric m.dims
any_space (Max m) = max_metric m.dims
any_space (Hamming m) = hamming_metric m.dims
any_space (Table m) = table_metric m.rows

-- each of them is a metric
pub any_is_metric : (m : AnyMetric) → IsMetric (any_space m)
any_is_metric (L1 m) = l1_is_metric m.dims m.few
any_is_metric (Max m) = max_is_metric m.dims
any_is_metric (Hamming m) = hamming_is_metric m.dims m.few
any_is_metric (Table m) = table_is_metric m.rows m.table m.faultless
