-- What is asked of a part, passed on.
pub use Rattle.exr_asked.specs.Demand.{Demand, demand_of, demand_in, IsModest}
