mod Computed
mod Established
